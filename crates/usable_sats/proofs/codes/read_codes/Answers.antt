use Rattle.usable_sats.proofs.codes.read_codes.Goals as goal

pub returns-in-Single : goal.returns-in-Single
returns-in-Single c = rw c.in-Single.is (c.read_single.ensures c.args.system c.in-Single.code)

pub returns-in-Dual : goal.returns-in-Dual
returns-in-Dual c = rw c.in-Dual.is (c.read_dual.ensures c.in-Dual.first c.in-Dual.second)
