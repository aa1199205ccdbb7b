use Rattle.std.proofs.Common.{◌≡◌, refl, to_z-of_z, to_z, of_z, FitsSigned, rules}
use mir.Syntax.{w128}
use Rattle.std.proofs.lemmas.Result.{err_from_is_err_and}
use Rattle.rinex_text.proofs.TakeLemmas.{needs_took, needs_failed, leaves_one, leaves_next}
use Rattle.rinex_nav.proofs.TakeLemmas.{plain_is, kept_is}
use Rattle.rinex_nav.proofs.read.read_record.Goals as goal

pub returns-in_err-crs-clause-fault : goal.returns-in_err-crs-clause-fault
returns-in_err-crs-clause-fault c =
    let p = err_from_is_err_and c.from_residual-in_err-crs.result c.from_residual-in_err-crs.ensures.1 in
    rw (p.1, p.2) (needs_took _ _ _ _ _ _ c.in_ok-sat.ensures.took (needs_failed _ _ _ _ _ c.in_err-crs.ensures.failed refl))

pub returns-in_err-cuc-clause-fault : goal.returns-in_err-cuc-clause-fault
returns-in_err-cuc-clause-fault c =
    let p = err_from_is_err_and c.from_residual-in_err-cuc.result c.from_residual-in_err-cuc.ensures.1 in
    rw (p.1, p.2) (needs_took _ _ _ _ _ _ c.in_ok-sat.ensures.took (needs_took _ _ _ _ _ _ c.in_ok-crs.ensures.took (needs_failed _ _ _ _ _ c.in_err-cuc.ensures.failed refl)))

pub returns-in_err-toe-clause-fault : goal.returns-in_err-toe-clause-fault
returns-in_err-toe-clause-fault c =
    let p = err_from_is_err_and c.from_residual-in_err-toe.result c.from_residual-in_err-toe.ensures.1 in
    rw (p.1, p.2) (needs_took _ _ _ _ _ _ c.in_ok-sat.ensures.took (needs_took _ _ _ _ _ _ c.in_ok-crs.ensures.took (needs_took _ _ _ _ _ _ c.in_ok-cuc.ensures.took (needs_failed _ _ _ _ _ c.in_err-toe.ensures.failed refl))))

pub returns-in_err-i0-clause-fault : goal.returns-in_err-i0-clause-fault
returns-in_err-i0-clause-fault c =
    let p = err_from_is_err_and c.from_residual-in_err-i0.result c.from_residual-in_err-i0.ensures.1 in
    rw (p.1, p.2) (needs_took _ _ _ _ _ _ c.in_ok-sat.ensures.took (needs_took _ _ _ _ _ _ c.in_ok-crs.ensures.took (needs_took _ _ _ _ _ _ c.in_ok-cuc.ensures.took (needs_took _ _ _ _ _ _ c.in_ok-toe.ensures.took (needs_failed _ _ _ _ _ c.in_err-i0.ensures.failed refl)))))

pub returns-in_err-idot-clause-fault : goal.returns-in_err-idot-clause-fault
returns-in_err-idot-clause-fault c =
    let p = err_from_is_err_and c.from_residual-in_err-idot.result c.from_residual-in_err-idot.ensures.1 in
    rw (p.1, p.2) (needs_took _ _ _ _ _ _ c.in_ok-sat.ensures.took (needs_took _ _ _ _ _ _ c.in_ok-crs.ensures.took (needs_took _ _ _ _ _ _ c.in_ok-cuc.ensures.took (needs_took _ _ _ _ _ _ c.in_ok-toe.ensures.took (needs_took _ _ _ _ _ _ c.in_ok-i0.ensures.took (needs_failed _ _ _ _ _ c.in_err-idot.ensures.failed refl))))))

pub returns-in_err-healthy-clause-fault : goal.returns-in_err-healthy-clause-fault
returns-in_err-healthy-clause-fault c =
    let p = err_from_is_err_and c.from_residual-in_err-healthy.result c.from_residual-in_err-healthy.ensures.1 in
    rw (p.1, p.2) (needs_took _ _ _ _ _ _ c.in_ok-sat.ensures.took (needs_took _ _ _ _ _ _ c.in_ok-crs.ensures.took (needs_took _ _ _ _ _ _ c.in_ok-cuc.ensures.took (needs_took _ _ _ _ _ _ c.in_ok-toe.ensures.took (needs_took _ _ _ _ _ _ c.in_ok-i0.ensures.took (needs_took _ _ _ _ _ _ c.in_ok-idot.ensures.took (needs_failed _ _ _ _ _ c.in_err-healthy.ensures.failed refl)))))))

pub returns-in_err-left-clause-fault : goal.returns-in_err-left-clause-fault
returns-in_err-left-clause-fault c =
    let p = err_from_is_err_and c.from_residual-in_err-left.result c.from_residual-in_err-left.ensures.1 in
    rw (p.1, p.2) (needs_took _ _ _ _ _ _ c.in_ok-sat.ensures.took (needs_took _ _ _ _ _ _ c.in_ok-crs.ensures.took (needs_took _ _ _ _ _ _ c.in_ok-cuc.ensures.took (needs_took _ _ _ _ _ _ c.in_ok-toe.ensures.took (needs_took _ _ _ _ _ _ c.in_ok-i0.ensures.took (needs_took _ _ _ _ _ _ c.in_ok-idot.ensures.took (needs_took _ _ _ _ _ _ c.in_ok-healthy.ensures.took (needs_failed _ _ _ _ _ c.in_err-left.ensures.failed refl))))))))

pub returns-clause-record : goal.returns-clause-record
returns-clause-record c =
    let fits : FitsSigned w128 c.in_ok-sat.toc = search rules in
    let toc : to_z w128 (of_z w128 c.in_ok-sat.toc) ≡ c.in_ok-sat.toc = simp to_z-of_z refl in
    (needs_took _ _ _ _ _ _ c.in_ok-sat.ensures.took (needs_took _ _ _ _ _ _ c.in_ok-crs.ensures.took (needs_took _ _ _ _ _ _ c.in_ok-cuc.ensures.took (needs_took _ _ _ _ _ _ c.in_ok-toe.ensures.took (needs_took _ _ _ _ _ _ c.in_ok-i0.ensures.took (needs_took _ _ _ _ _ _ c.in_ok-idot.ensures.took (needs_took _ _ _ _ _ _ c.in_ok-healthy.ensures.took (needs_took _ _ _ _ _ _ c.in_ok-left.ensures.took (kept_is _ _ _ _ (plain_is _ _ refl toc refl refl) c.kept.ensures)))))))))

pub returns-clause-left : goal.returns-clause-left
returns-clause-left c =
    let l1 = leaves_one _ _ _ _ c.in_ok-sat.ensures.took in
    let l2 = leaves_next _ _ _ _ _ _ l1 c.in_ok-crs.ensures.took in
    let l3 = leaves_next _ _ _ _ _ _ l2 c.in_ok-cuc.ensures.took in
    let l4 = leaves_next _ _ _ _ _ _ l3 c.in_ok-toe.ensures.took in
    let l5 = leaves_next _ _ _ _ _ _ l4 c.in_ok-i0.ensures.took in
    let l6 = leaves_next _ _ _ _ _ _ l5 c.in_ok-idot.ensures.took in
    let l7 = leaves_next _ _ _ _ _ _ l6 c.in_ok-healthy.ensures.took in
    let l8 = leaves_next _ _ _ _ _ _ l7 c.in_ok-left.ensures.took in
    l8
