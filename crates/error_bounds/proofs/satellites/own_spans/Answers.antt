use Rattle.std.proofs.Common.{◌++◌, sym, ◌∙◌, ap, ℤ, List}
use Rattle.gnss_model.specs.declared.satellites.Sat.{Sat}
use Rattle.toml.specs.View.{table_view}
use Rattle.error_bounds.specs.Keys.{sats_from, galileo_sats}
use Rattle.error_bounds.specs.Texts.{own_extra}
use Rattle.error_bounds.proofs.KeyLemmas.{extra_joined, none_joined, refused_before, refused_behind}
use Rattle.error_bounds.proofs.satellites.own_spans.Goals as goal

pub returns-in-Err-clause-fault : goal.returns-in-Err-clause-fault
returns-in-Err-clause-fault c = refused_before (table_view c.args.members.now) (galileo_sats c.args.both) (sats_from 71 1) _ c.in-Err.ensures.fault

pub returns-in-Err-add_system_spans-clause-fault : goal.returns-in-Err-add_system_spans-clause-fault
returns-in-Err-add_system_spans-clause-fault c =
    refused_behind (table_view c.args.members.now) (galileo_sats c.args.both) (sats_from 71 1) _ c.in-Ok.ensures.none c.in-Err-add_system_spans.ensures.fault

pub returns-in-Ok-add_system_spans-clause-none : goal.returns-in-Ok-add_system_spans-clause-none
returns-in-Ok-add_system_spans-clause-none c =
    none_joined (table_view c.args.members.now) (galileo_sats c.args.both) (sats_from 71 1) c.in-Ok.ensures.none c.in-Ok-add_system_spans.ensures.none

pub returns-in-Ok-add_system_spans-clause-extra : goal.returns-in-Ok-add_system_spans-clause-extra
returns-in-Ok-add_system_spans-clause-extra c =
    let table = table_view c.args.members.now in
    c.in-Ok-add_system_spans.ensures.extra
    ∙ (ap (λ (l : List (Sat × (ℤ × ℤ))). l ++ own_extra table (sats_from 71 1)) c.in-Ok.ensures.extra ∙ sym (extra_joined table (galileo_sats c.args.both) (sats_from 71 1)))
