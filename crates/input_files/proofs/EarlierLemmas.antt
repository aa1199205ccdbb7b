-- What the text of an earlier log gives.
use Rattle.std.proofs.Common.{◌≡◌, ◌⊎◌, ℕ, List, [], ◌∷◌, Option, None, Some, Result, Ok, Err, inl, inr, refl, sym, ap, subst, ◌∙◌}
use Rattle.std.specs.Prelude.{IfErr, IfOk}
use Rattle.std.specs.List.{AllByRecursion}
use Rattle.grid_model.specs.Boxes.{GridBox}
use Rattle.log_lines.specs.Text.{BlockFits, IsLogText}
use Rattle.log_lines.specs.Order.{form_of}
use Rattle.log_lines.specs.declared.line.Form.{Form}
use Rattle.log_lines.specs.declared.line.Kind.TheVariants as kind
use Rattle.log_tokens.specs.Fields.{IsTime}
use Rattle.moving_tube.specs.Endings.{IsInsideOf, before_value, ending_of}
use Rattle.moving_tube.specs.Roots.{Before}
use Rattle.moving_tube.specs.declared.kept.Kept.{Kept}
use Rattle.paving_log.specs.CoverBoxes.{BodyFolds}
use Rattle.paving_log.specs.Faults.{FirstFault}
use Rattle.paving_log.specs.declared.log.LogError.{LogError}
use Rattle.paving_log.specs.declared.log.LogError.TheVariants as error
use Rattle.sat_model.specs.BoxTests.{test_in}
use Rattle.sat_model.specs.Logs.{Block, Body, LogValue, first_rows}
use Rattle.sat_model.specs.Renewals.{AnyLine}
use Rattle.sat_model.specs.Stages.{first_stage}
use Rattle.sat_model.specs.Verdicts as verdicts
use Rattle.sat_model.specs.declared.rules.Rules.{Rules}
use Rattle.subpaving.proofs.FoldingLemmas.{steps_fold}
use Rattle.input_files.proofs.GrammarLemmas.{memory_settles, no_first, read_settles, refused_settles}
use Rattle.input_files.specs.Earlier.{IsLeft, IsUnfit, NamesEarlier, NamesUnfit, SpellsEarlier, earlier_text}
use Rattle.input_files.specs.Reading.{Gives, GivesOrEnds, Settles, valued}
use Rattle.input_files.specs.Statuses.{notice_of_log, status_of}
use Rattle.input_files.specs.declared.notice.Notice.{Notice}
use Rattle.input_files.specs.declared.notice.Notice.TheVariants as notice
use Rattle.input_files.specs.declared.role.Role.TheVariants as role
use Rattle.input_files.specs.declared.status.Status.TheVariants as status

-- ---- what may be asked of the blocks of a log

-- the times of its epochs
times_of : (f : Form) (blocks : List Block) → AllByRecursion (BlockFits f) blocks
    → AllByRecursion (λ (b : Block). IsTime b.ps) blocks
times_of f [] all = tt
times_of f (block ∷ more) all = (all.0.header.ps, times_of f more all.1)

pub log_times : (log : LogValue) (bytes : List ℕ) → IsLogText log bytes
    → AllByRecursion (λ (b : Block). IsTime b.ps) log.blocks
log_times log bytes is = times_of (form_of kind.Log log.version) log.blocks is.fits.blocks

-- the steps of one that is right can be taken
body_folds : (rules : Rules) (block : Block) (body : Option Body)
    → verdicts.BodyPasses rules block body → BodyFolds body
body_folds rules block None h = tt
body_folds rules block (Some body) h =
    steps_fold AnyLine (first_rows block body) rules body.done 0 (first_stage (test_in rules block) body.root) body.events h.events

blocks_fold : (rules : Rules) (before : Option ℕ) (blocks : List Block)
    → verdicts.BlocksPass rules before blocks → AllByRecursion (λ (b : Block). BodyFolds b.body) blocks
blocks_fold rules before [] h = tt
blocks_fold rules before (block ∷ more) h =
    (body_folds rules block block.body h.0.body, blocks_fold rules (Some block.index) more h.1)

pub judged_fold : (log : LogValue) → verdicts.Judged log
    → AllByRecursion (λ (b : Block). BodyFolds b.body) log.blocks
judged_fold log judged = blocks_fold log.rules None log.blocks judged

-- ---- the text of a log

module _ (search : GridBox) (bytes : List ℕ) (log : LogValue) (is : IsLogText log bytes) where
  unfit_status : (n : Notice) → IsUnfit search log n → status_of n ≡ status.Refused
  unfit_status (notice.BadAfter line) unfit = refl
  unfit_status notice.AfterOutside unfit = refl
  unfit_status _ unfit = absurd unfit

  pub left_gives : (r : Result (Option Kept) Notice)
      → IfOk r (λ left. IsLeft search log (before_value left)) → IfErr r (NamesUnfit search log)
      → GivesOrEnds (earlier_text search) bytes (valued before_value r)
  left_gives (Ok left) k unfit = inr (log, is, k)
  left_gives (Err n) k (inl memory) = inl (ap Err memory)
  left_gives (Err n) k (inr unfit) = inr (unfit_status n unfit, inr (log, is, unfit))

  module _ (exact : (other : LogValue) → IsLogText other bytes → log ≡ other) where
    -- what the text spells is what this log leaves
    left_one : (left v : Option Before) → IsLeft search log left → SpellsEarlier search bytes v → left ≡ v
    left_one left v k (other, text, there) =
        k.left_is ∙ ap (λ (l : LogValue). ending_of l.blocks) (exact other text) ∙ sym there.left_is

    -- one that leaves something there isn't unfit
    fit : (left : Option Before) → IsLeft search log left → (n : Notice) → IsUnfit search log n → ⊥
    fit left k (notice.BadAfter line) unfit = unfit.0 k.judged
    fit left k notice.AfterOutside unfit = unfit.1 (subst (IsInsideOf search) k.left_is k.inside)
    fit left k _ unfit = unfit

    none_named : (left : Option Before) → IsLeft search log left → (n : Notice)
        → NamesEarlier search bytes n → ⊥
    none_named left k n (inl first) = no_first role.After IsLogText FirstFault bytes log is n first
    none_named left k n (inr (other, text, unfit)) =
        fit left k n (subst (λ (l : LogValue). IsUnfit search l n) (sym (exact other text)) unfit)

    -- an unfit one leaves nothing there
    none_spelled : (n : Notice) → IsUnfit search log n → (v : Option Before) → SpellsEarlier search bytes v → ⊥
    none_spelled n unfit v (other, text, there) =
        fit v (subst (λ (l : LogValue). IsLeft search l v) (sym (exact other text)) there) n unfit

    pub left_settles : (r : Result (Option Kept) Notice)
        → IfOk r (λ left. IsLeft search log (before_value left)) → IfErr r (NamesUnfit search log)
        → (other : Result (Option Before) Notice) → Gives (earlier_text search) bytes other
        → Settles (valued before_value r) other
    left_settles (Ok left) k unfit =
        read_settles (earlier_text search) bytes (before_value left)
        (λ v spells. left_one (before_value left) v k spells)
        (none_named (before_value left) k)
    left_settles (Err n) k (inl memory) = memory_settles (earlier_text search) bytes n memory
    left_settles (Err n) k (inr unfit) =
        refused_settles (earlier_text search) bytes n (unfit_status n unfit)
        (λ v spells. absurd (none_spelled n unfit v spells))

-- ---- a text of none

pub none_gives : (search : GridBox) (bytes : List ℕ) (e : LogError)
    → (e ≡ error.NoMemory) ⊎ (((log : LogValue) → IsLogText log bytes → ⊥) × FirstFault bytes e)
    → GivesOrEnds (earlier_text search) bytes (Err (notice_of_log role.After e))
none_gives search bytes (error.BadLog line kind) (inl memory) = cc
none_gives search bytes (error.BadLog line kind) (inr fails) = inr (refl, inl (refl, fails))
none_gives search bytes error.NoMemory fault = inl refl
