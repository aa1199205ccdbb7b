use Rattle.std.proofs.Common.{◌≤◌, List, ℕ, sym, subst, map, length, ◌∙◌}
use Rattle.made_texts.specs.NavText.{broadcast_of}
use Rattle.made_texts.proofs.NavLemmas.{nav_length}
use Rattle.rinex_nav.specs.Files.{IsNavFile}
use Rattle.made_input.proofs.record_list.read_back.Goals as goal

pub read_nav-requires : goal.read_nav-requires
read_nav-requires c =
    subst (λ (text : List ℕ). length text ≤ 4000000000) (sym (c.as_slice.ensures.value ∙ c.in_ok-text.ensures.text)) (nav_length c.args.records.now c.requires.few)

pub unreachable-requires : goal.unreachable-requires
unreachable-requires c =
    let file = subst (λ (text : List ℕ). IsNavFile text (map broadcast_of c.args.records.now)) (sym c.as_slice.ensures.value) (c.in_ok-text.ensures.accepted c.requires.named) in
    let memory = c.in-Err-Refused.ensures.exact (map broadcast_of c.args.records.now) file in
    let refused = c.in-Err-Refused.field-0-is in
    cc

pub returns-in-Ok-clause-records : goal.returns-in-Ok-clause-records
returns-in-Ok-clause-records c =
    let file = subst (λ (text : List ℕ). IsNavFile text (map broadcast_of c.args.records.now)) (sym c.as_slice.ensures.value) (c.in_ok-text.ensures.accepted c.requires.named) in
    c.in-Ok.ensures.exact (map broadcast_of c.args.records.now) file
