use Rattle.std.proofs.Common.{refl, inl, inr}
use Rattle.usable_sats.proofs.judging.judge_itself.Goals as goal

pub returns-in-NoRecord : goal.returns-in-NoRecord
returns-in-NoRecord c =
    rw c.skipped-in-NoRecord.ensures (inr (inr (inl (refl, refl, record { measured = record { codes = _; values = c.in-Within.ensures.0; plausible = c.in-Within.ensures.1 }; none = c.in-NoRecord.ensures c.args.galileo.now }))))

pub returns-in-Unhealthy : goal.returns-in-Unhealthy
returns-in-Unhealthy c =
    rw c.skipped-in-Unhealthy.ensures (inr (inr (inr (inl (refl, refl, record { measured = record { codes = _; values = c.in-Within.ensures.0; plausible = c.in-Within.ensures.1 }; some = (c.in-Unhealthy.ensures c.args.galileo.now).0; none = (c.in-Unhealthy.ensures c.args.galileo.now).1 })))))

pub returns-in-Old : goal.returns-in-Old
returns-in-Old c =
    rw c.skipped-in-Old.ensures (inr (inr (inr (inr (inl (refl, refl, record { measured = record { codes = _; values = c.in-Within.ensures.0; plausible = c.in-Within.ensures.1 }; some = (c.in-Old.ensures c.args.galileo.now).0; none = (c.in-Old.ensures c.args.galileo.now).1 }))))))

pub returns-in-Unfit : goal.returns-in-Unfit
returns-in-Unfit c =
    let f = c.in-Unfit.ensures c.args.galileo.now in
    inr (inr (inr (inr (inr (refl, record { measured = record { codes = _; values = c.in-Within.ensures.0; plausible = c.in-Within.ensures.1 }; none = f.none; i = f.i; r = f.r; age = c.in-Unfit.age; nearest = f.nearest; first = f.first })))))

pub returns-in-Fit : goal.returns-in-Fit
returns-in-Fit c =
    let f = c.in-Fit.ensures c.args.galileo.now in
    record {
      usable = record { measured = record { codes = _; values = c.in-Within.ensures.0; plausible = c.in-Within.ensures.1 }; i = f.i; r = f.r; age = c.in-Fit.age; used = f.nearest; el = c.in-Fit.elements; elements = f.elements };
      codes_are = refl;
      el_is = refl;
    }
