-- The log that `solve` writes has no fault by the files.
use Rattle.std.proofs.Common.{◌≡◌, ℕ, List, Option, None, Some, sym, ap, subst, ◌∙◌}
use Rattle.epoch_selection.specs.Searches.{searches_in}
use Rattle.epoch_selection.specs.declared.selection.Selection.{Selection}
use Rattle.error_bounds.specs.Reading.{IsRoot}
use Rattle.input_files.specs.Inputs.{InputsValue, inputs_value}
use Rattle.input_files.specs.Motion.{speed_in, speed_of}
use Rattle.input_files.specs.declared.inputs.Inputs.{Inputs}
use Rattle.paving_log.proofs.LogLemmas.{one_spelled, log_spelling}
use Rattle.log_lines.specs.Text.{IsLogText}
use Rattle.log_lines.specs.declared.line.Kind.TheVariants as kind
use Rattle.paving_log_check.specs.Admissible.{Admits}
use Rattle.paving_log_check.specs.Checked.{IsRefused}
use Rattle.paving_log_check.specs.declared.verdict.Fault.{Fault}
use Rattle.gnss_model.specs.declared.delays.Delays.{Delays}
use Rattle.grid_model.specs.Boxes.{GridBox}
use Rattle.sat_model.specs.Logs.{LogValue}
use Rattle.grid_model.specs.declared.boxes.Pos.{Pos}
use Rattle.tube_searches.specs.Tubes.{tube_searches}
use Rattle.cover_run.proofs.SameInputs.{root_there, own_there, admits_there, epochs_same}
use Rattle.cover_run.proofs.SameInputs.{searches_same, tracks_same}
use Rattle.cover_run.proofs.SolvingLemmas.{files_delays}
use Rattle.cover_run.specs.Checking.{Refuses}
use Rattle.cover_run.specs.Rechecking.{RefusesTrack}
use Rattle.cover_run.specs.Solving.{IsSolved, epochs_of, meaning_of}
use Rattle.cover_run.specs.Tracking.{IsTracked, tube_of}

-- the search box is one
one_root : (centre : Option Pos) (half : Pos) (a b : GridBox)
    → IsRoot centre half a → IsRoot centre half b → a ≡ b
one_root None half a b is also = absurd is
one_root (Some p) half a b is also = is ∙ sym also

pub not_refused : (chosen : Selection) (i j : Inputs) (limit : ℕ) (bytes said : List ℕ)
    (log : LogValue) (fault : Fault)
    → inputs_value i ≡ inputs_value j → IsSolved chosen i limit bytes said → IsLogText log bytes
    → Refuses chosen j log fault → ⊥
not_refused chosen i j limit bytes said log fault same solved text refused =
    let whole = solved.whole in
    let is_log : whole.log ≡ log = one_spelled kind.Log whole.log log bytes
    (log_spelling whole.log bytes whole.text) (log_spelling log bytes text) in
    let box : refused.root ≡ solved.root = one_root _ i.settings.half refused.root solved.root
    (root_there i j same refused.root refused.is_root) solved.is_root in
    let here = searches_in solved.root (epochs_of chosen i) in
    let there = searches_in solved.root (epochs_of chosen j) in
    let r = subst (λ (l : LogValue).
    IsRefused (meaning_of j) there j.settings.rules l fault) (sym is_log)
    (subst (λ (root : GridBox).
    IsRefused (meaning_of j) (searches_in root (epochs_of chosen j)) j.settings.rules log fault)
    box refused.refused) in
    let alike = searches_same solved.root (epochs_of chosen i) (epochs_of chosen j)
    (epochs_same i j same chosen) in
    let back = searches_same solved.root (epochs_of chosen j) (epochs_of chosen i)
    (sym (epochs_same i j same chosen)) in
    let admits = solved.admits r.owns
    (own_there i j same here there whole.log.blocks r.owns back r.are_own) in
    r.refused (subst (λ (delays : Delays). Admits delays there r.owns j.settings.rules whole.log)
    (sym (files_delays j)) (admits_there i j same here there r.owns whole.log alike admits))

-- ---- a track

one_speed : (speeds : Option ℕ) (a b : ℕ) → speeds ≡ Some a → speeds ≡ Some b → a ≡ b
one_speed speeds a b is also = cc

pub track_not_refused : (chosen : Selection) (i j : Inputs) (limit : ℕ) (bytes said : List ℕ)
    (log : LogValue) (fault : Fault)
    → inputs_value i ≡ inputs_value j → IsTracked chosen i limit bytes said → IsLogText log bytes
    → RefusesTrack chosen j log fault → ⊥
track_not_refused chosen i j limit bytes said log fault same tracked text refused =
    let whole = tracked.track.whole in
    let is_log : whole.log ≡ log = one_spelled kind.Log whole.log log bytes
    (log_spelling whole.log bytes whole.text) (log_spelling log bytes text) in
    let box : refused.search ≡ tracked.search =
    one_root _ i.settings.half refused.search tracked.search
    (root_there i j same refused.search refused.is_tube.search) tracked.is_tube.search in
    let fast : refused.speed ≡ tracked.speed =
    one_speed (speed_of i.settings) refused.speed tracked.speed
    (ap (λ (v : InputsValue). speed_in v.settings) same ∙ refused.is_tube.speed)
    tracked.is_tube.speed in
    let here = tube_searches (tube_of chosen i tracked.search tracked.speed) whole.log.blocks in
    let there = tube_searches (tube_of chosen j tracked.search tracked.speed) whole.log.blocks in
    let r = subst (λ (l : LogValue).
    IsRefused (meaning_of j)
    (tube_searches (tube_of chosen j tracked.search tracked.speed) l.blocks) j.settings.rules l
    fault) (sym is_log) (subst (λ (speed : ℕ).
    IsRefused (meaning_of j) (tube_searches (tube_of chosen j tracked.search speed) log.blocks)
    j.settings.rules log fault) fast (subst (λ (search : GridBox).
    IsRefused (meaning_of j) (tube_searches (tube_of chosen j search refused.speed) log.blocks)
    j.settings.rules log fault) box refused.refused)) in
    let alike = tracks_same i j same chosen tracked.search tracked.speed whole.log.blocks in
    let back = tracks_same j i (sym same) chosen tracked.search tracked.speed whole.log.blocks in
    let admits = tracked.admits r.owns
    (own_there i j same here there whole.log.blocks r.owns back r.are_own) in
    r.refused (subst (λ (delays : Delays). Admits delays there r.owns j.settings.rules whole.log)
    (sym (files_delays j)) (admits_there i j same here there r.owns whole.log alike admits))
