-- The numbers of the blocks' lines, and the blocks that were taken so far.
use Rattle.std.proofs.Common.{◌≡◌, ℕ, ◌+◌, ◌<◌, ◌≤◌, Bool, List, [], ◌∷◌, ◌++◌, length, Some, None, sym, ap, subst, ◌∙◌, arith}
use Rattle.std.specs.Prelude.{Option}
use Rattle.std.specs.List.{flat_map, AllByRecursion}
use Rattle.std.proofs.lemmas.List.{length-append, append-nil}
use Rattle.std.proofs.lemmas.List.Concat.{flat_map-append}
use Rattle.sat_model.specs.Logs.{Block, is_few}
use Rattle.log_lines.specs.declared.line.Form.{Form}
use Rattle.log_lines.specs.declared.line.Header.{Header}
use Rattle.log_lines.specs.declared.line.LogLine.{LogLine}
use Rattle.log_lines.specs.declared.line.Place.{Place}
use Rattle.log_lines.specs.declared.line.Place.TheVariants as place
use Rattle.paving_log.specs.declared.lines.Lines.{Lines}
use Rattle.paving_log.specs.declared.lines.Opening.{Opening}
use Rattle.log_lines.specs.Lines.{line_text, text_of}
use Rattle.log_lines.specs.Text.{first_line, header_of, body_lines, block_lines, BlockFits}
use Rattle.paving_log.specs.RowsText.{IsNumberedIn}
use Rattle.paving_log.specs.Taking.{TakesTo, TakesBlocks, AreNumbered, IsOpened, block_place}
use Rattle.paving_log.proofs.BlockLemmas.{block_taken, end_of}

-- the blocks that were taken so far, and the first line of the next
pub record TakesSoFar (f : Form) (start : Lines) (blocks : List Block) (next : Option Opening) (left : Lines) : Type 0 where
  pub taken : TakesTo f (place.Between f) start (flat_map (block_lines f) blocks) next left
  pub fit : AllByRecursion (BlockFits f) blocks
  pub numbered : AreNumbered f start.number blocks (end_of next left)

numbered_on : (f : Form) (from to : ℕ) (blocks : List Block) (b : Block)
    → AreNumbered f from blocks to → b.line ≡ to
    → AreNumbered f from (blocks ++ b ∷ []) (to + length (block_lines f b))
numbered_on f from to [] b numbered is = (is ∙ sym numbered, ap (λ (n : ℕ). n + length (block_lines f b)) numbered)
numbered_on f from to (c ∷ blocks) b numbered is = (numbered.0, numbered_on f (from + length (block_lines f c)) to blocks b numbered.1 is)

-- the block ends where the next begins
block_end : (f : Form) (mid new : Lines) (o : Opening) (b : Block) (next : Option Opening)
    → mid.number ≡ o.line + 1
    → TakesTo f (block_place f o.few o.header) mid (body_lines f b) next new
    → o.line + length (block_lines f b) ≡ end_of next new
block_end f mid new o b None number taken = omega (arith, taken.taken.number)
block_end f mid new o b (Some o2) number taken =
    omega (arith, taken.taken.number, taken.number, length-append (body_lines f b) (first_line o2.few o2.header ∷ []))

all_on : (f : Form) (blocks : List Block) (b : Block) → AllByRecursion (BlockFits f) blocks
    → BlockFits f b → AllByRecursion (BlockFits f) (blocks ++ b ∷ [])
all_on f [] b fit one = (one, tt)
all_on f (c ∷ blocks) b fit one = (fit.0, all_on f blocks b fit.1 one)

flat_on : (f : Form) (blocks : List Block) (b : Block) (few : Bool) (h : Header) → is_few b ≡ few
    → header_of b ≡ h
    → flat_map (block_lines f) blocks ++ first_line few h ∷ body_lines f b ≡ flat_map (block_lines f) (blocks ++ b ∷ [])
flat_on f blocks b few h e g =
    ap (λ (l : LogLine). flat_map (block_lines f) blocks ++ l ∷ body_lines f b) (sym (ap (λ (x : Bool). first_line x h) e) ∙ sym (ap (first_line (is_few b)) g))
    ∙ ap (λ (ls : List LogLine). flat_map (block_lines f) blocks ++ ls) (sym (append-nil (block_lines f b)))
    ∙ sym (flat_map-append (block_lines f) blocks (b ∷ []))

-- one block more
pub block_on : (f : Form) (start mid new : Lines) (blocks : List Block) (o : Opening) (b : Block) (next : Option Opening)
    → TakesSoFar f start blocks (Some o) mid → IsOpened o b → BlockFits f b
    → TakesTo f (block_place f o.few o.header) mid (body_lines f b) next new
    → TakesSoFar f start (blocks ++ b ∷ []) next new
block_on f start mid new blocks o b next before opened fits taken = record {
  taken =
      subst (λ (ls : List LogLine). TakesTo f (place.Between f) start ls next new) (flat_on f blocks b o.few o.header opened.few opened.header)
      (block_taken f (place.Between f) start mid new (flat_map (block_lines f) blocks) o (body_lines f b) next before.taken taken);
  fit = all_on f blocks b before.fit fits;
  numbered =
      subst (λ (n : ℕ). AreNumbered f start.number (blocks ++ b ∷ []) n) (block_end f mid new o b next before.taken.number taken)
      (numbered_on f start.number o.line blocks b before.numbered opened.line);
}

-- the text ended behind the blocks
pub blocks_ended : (f : Form) (start left : Lines) (blocks : List Block) (next : Option Opening)
    → next ≡ None → TakesSoFar f start blocks next left → TakesBlocks f start blocks
blocks_ended f start left blocks (Some o) none so_far = cc
blocks_ended f start left blocks None none so_far = record {
  to = so_far.taken.to;
  leads = so_far.taken.taken.leads;
  may_end = so_far.taken.may_end;
  parts =
      so_far.taken.taken.parts ∙ ap (λ (t : List ℕ). text_of (flat_map (block_lines f) blocks) ++ t) so_far.taken.ended ∙ append-nil (text_of (flat_map (block_lines f) blocks));
  fit = so_far.fit;
  numbered = subst (λ (n : ℕ). AreNumbered f start.number blocks n) so_far.taken.taken.number so_far.numbered;
}

-- ---- what is left of the text

-- how much is left to be read
abbrev pub left_over : Option Opening → Lines → ℕ
left_over None left = 0
left_over (Some o) left = 1 + length left.rest.now

-- lines take at least a byte each
pub length-text_of : (lines : List LogLine) → length lines ≤ length (text_of lines)
length-text_of [] = omega arith
length-text_of (l ∷ lines) = omega (arith, length-text_of lines, length-append (line_text l) (10 ∷ text_of lines))

pub block_takes : (f : Form) (at : Place) (mid new : Lines) (ls : List LogLine) (next : Option Opening)
    → TakesTo f at mid ls next new → left_over next new < 1 + length mid.rest.now
block_takes f at mid new ls None taken = omega arith
block_takes f at mid new ls (Some o) taken =
    let l = first_line o.few o.header in
    omega (arith, ap length taken.taken.parts, length-append (text_of (ls ++ l ∷ [])) new.rest.now, length-text_of (ls ++ l ∷ []), length-append ls (l ∷ []))

-- the lines up to the last have numbers of at most 4 * 10^9
pub numbered_up_to : (f : Form) (from to : ℕ) (blocks : List Block) → AreNumbered f from blocks to
    → to ≤ 4000000001 → IsNumberedIn f from blocks
numbered_up_to f from to [] numbered le = omega arith
numbered_up_to f from to (b ∷ blocks) numbered le = (numbered.0, numbered_up_to f (from + length (block_lines f b)) to blocks numbered.1 le)

-- no block was taken yet
pub none_taken : (f : Form) (start left : Lines) (blocks : List Block) (next : Option Opening)
    → blocks ≡ [] → TakesTo f (place.Between f) start [] next left
    → TakesSoFar f start blocks next left
none_taken f start left blocks next none taken = subst (λ (bs : List Block). TakesSoFar f start bs next left) (sym none) (record { taken = taken; fit = tt; numbered = at_start next taken })
  where
    at_start : (o : Option Opening) → TakesTo f (place.Between f) start [] o left
        → start.number ≡ end_of o left
    at_start None t = omega (arith, t.taken.number)
    at_start (Some o) t = omega (arith, t.taken.number, t.number)
