use Rattle.std.proofs.Common.{List, ℕ, map, refl, arith, sym, subst}
use Rattle.rinex_nav.specs.Files.{IsNavFile}
use Rattle.made_texts.specs.NavText.{broadcast_of}
use Rattle.made_texts.proofs.NavWriting.{record_next, record_end}
use Rattle.made_texts.proofs.NavLemmas.{nav_read}
use Rattle.made_texts.proofs.nav.nav_text.Goals as goal

pub records-init : goal.records-init
records-init c = rw (c.in_ok-extend_from_slice-2.ensures.items, c.in_ok-extend_from_slice.ensures.items, c.new-text.ensures.items) refl

pub records-preserved : goal.records-preserved
records-preserved c = record_next c.records.text.items _ _ c.args.records.now c.records.record-index _ (omega arith) c.records.invariant c.in_ok-push_record.ensures

pub returns-clause-text : goal.returns-clause-text
returns-clause-text c = record_end _ _ c.args.records.now c.records.record-index (grind arith) c.records.invariant

pub returns-clause-accepted : goal.returns-clause-accepted
returns-clause-accepted c named =
    subst (λ (text : List ℕ). IsNavFile text (map broadcast_of c.args.records.now)) (sym (returns-clause-text c)) (nav_read c.args.records.now named c.requires.few)
