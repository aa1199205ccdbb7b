use Rattle.epoch_rows.proofs.source.ObsBlocks.of_walk.Goals as goal

pub returns-clause-can : goal.returns-clause-can
returns-clause-can g c = record { skips = c.requires.skips; epochs_are = c.requires.writable }
