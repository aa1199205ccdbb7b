-- What is left of a text is its end, and what was taken is a part of it.
use Rattle.std.proofs.Common.{◌≡◌, ℕ, ◌-◌, List, [], ◌∷◌, ◌++◌, length, take, drop, Some, None, refl, sym, ap, ◌∙◌, append_assoc, arith}
use Rattle.std.proofs.lemmas.List.{length-append}
use Rattle.std.specs.Prelude.{Option, slice_range}
use Rattle.log_lines.specs.declared.line.Form.{Form}
use Rattle.log_lines.specs.declared.line.LogLine.{LogLine}
use Rattle.log_lines.specs.declared.line.Place.{Place}
use Rattle.paving_log.specs.declared.lines.Lines.{Lines}
use Rattle.paving_log.specs.declared.lines.Opening.{Opening}
use Rattle.log_lines.specs.Lines.{text_of}
use Rattle.paving_log.specs.Taking.{Takes, TakesTo, IsEndOf}

-- behind lines that were taken
pub end_on : {at to : Place} {old new : Lines} {lines : List LogLine} {text : List ℕ}
    → IsEndOf old.rest.now text → Takes at old lines to new → IsEndOf new.rest.now text
end_on {new = new} {lines = lines} end taken = record {
  front = end.front ++ text_of lines;
  parts = end.parts ∙ ap (λ (rest : List ℕ). end.front ++ rest) taken.parts ∙ sym (append_assoc end.front (text_of lines) new.rest.now);
}

-- and behind those and the first line of a block, where there is one
pub end_to : (f : Form) (at : Place) (old new : Lines) (lines : List LogLine) (next : Option Opening) (text : List ℕ)
    → IsEndOf old.rest.now text → TakesTo f at old lines next new → IsEndOf new.rest.now text
end_to f at old new lines None text end taken = end_on end taken.taken
end_to f at old new lines (Some o) text end taken = end_on end taken.taken

drop_front : (front rest : List ℕ) → drop (length front) (front ++ rest) ≡ rest
drop_front [] rest = refl
drop_front (byte ∷ front) rest = drop_front front rest

take_front : (front rest : List ℕ) → take (length front) (front ++ rest) ≡ front
take_front [] rest = refl
take_front (byte ∷ front) rest = ap (λ (l : List ℕ). byte ∷ l) (take_front front rest)

-- the part of a text between two of its ends
part_between : (text front before part now : List ℕ) → text ≡ front ++ before
    → before ≡ part ++ now
    → slice_range text (length text - length before) (length text - length now) ≡ part
part_between text front before part now whole parts =
    let from : length text - length before ≡ length front = omega (arith, ap length whole, length-append front before) in
    let many : (length text - length now) - length front ≡ length part = omega (arith, ap length whole, length-append front before, ap length parts, length-append part now) in
    ap (λ (n : ℕ). slice_range text n (length text - length now)) from
    ∙ ap (λ (n : ℕ). take n (drop (length front) text)) many
    ∙ ap (λ (l : List ℕ). take (length part) (drop (length front) l)) whole
    ∙ ap (λ (l : List ℕ). take (length part) l) (drop_front front before)
    ∙ ap (λ (l : List ℕ). take (length part) l) parts
    ∙ take_front part now

-- the same, where the lengths are told
pub part_at : (text bytes front before part now : List ℕ) (all size : ℕ) → text ≡ front ++ before
    → before ≡ part ++ now → bytes ≡ text → all ≡ length text → size ≡ length text
    → slice_range bytes (all - length before) (size - length now) ≡ part
part_at text bytes front before part now all size whole parts same from to = rw (same, from, to) (part_between text front before part now whole parts)
