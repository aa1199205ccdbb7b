-- The text of records, one behind another.
use Rattle.std.proofs.Common.{◌≡◌, ℕ, ◌+◌, ◌<◌, ◌≤◌, List, ◌++◌, length, get_or, drop, append_assoc, refl, sym, ap, ◌∙◌}
use Rattle.std.proofs.lemmas.List.{drop_more, drop_all, append-nil}
use Rattle.made_texts.specs.TextLines.{text_of}
use Rattle.made_texts.specs.NavText.{body_lines, record_lines, record_text}
use Rattle.made_texts.specs.declared.ephemeris.Ephemeris.{Ephemeris}

-- the text of a record before that of others
pub record_before : (r : Ephemeris) (more : List (List ℕ))
    → text_of (record_lines r more) ≡ record_text r ++ text_of more
unfolding record_text
record_before r more = simp append_assoc refl

pub record_next : (text next here : List ℕ) (records : List Ephemeris) (i : ℕ) (d : Ephemeris)
    → i < length records
    → text ++ text_of (body_lines (drop i records)) ≡ here
    → next ≡ text ++ record_text (get_or records i d)
    → next ++ text_of (body_lines (drop (i + 1) records)) ≡ here
record_next text next here records i d within whole more =
    let cut = drop_more records i d within in
    let split = ap (λ (rs : List Ephemeris). text ++ text_of (body_lines rs)) cut in
    let first = record_before (get_or records i d) (body_lines (drop (i + 1) records)) in
    rw more (append_assoc text (record_text (get_or records i d)) (text_of (body_lines (drop (i + 1) records)))
    ∙ (ap (λ (l : List ℕ). text ++ l) (sym first) ∙ (sym split ∙ whole)))

pub record_end : (text here : List ℕ) (records : List Ephemeris) (i : ℕ) → length records ≤ i
    → text ++ text_of (body_lines (drop i records)) ≡ here → text ≡ here
record_end text here records i past whole = sym (append-nil text) ∙ (ap (λ (rs : List Ephemeris). text ++ text_of (body_lines rs)) (sym (drop_all i records past)) ∙ whole)
