use Rattle.std.proofs.Common.{refl}
use Rattle.input_files.proofs.PositionLemmas.{enough}
use Rattle.made_input.specs.MadeCodes.{centre_x, centre_y, centre_z}
use Rattle.made_input.specs.MadeRecords.{made_records}
use Rattle.made_texts.specs.SettingsText.{settings_of}
use Rattle.cover_run.proofs.MadeLemmas.{nav_short, obs_all, obs_for, obs_short, seen}
use Rattle.cover_run.proofs.making.made_inputs.Goals as goal

pub faultless_settings-requires : goal.faultless_settings-requires
faultless_settings-requires c = record {
  faultless = (
    settings_of (centre_x c.args.seed) (centre_y c.args.seed) (centre_z c.args.seed),
    rw c.deref.ensures.value c.in-Ok.ensures.settings_accepted,
  );
}

pub read_faultless-requires-clause-short : goal.read_faultless-requires-clause-short
read_faultless-requires-clause-short c =
    nav_short c.args.seed c.args.epochs c.in-Ok.made c.in-Ok.ensures

pub read_faultless-requires-clause-faultless : goal.read_faultless-requires-clause-faultless
read_faultless-requires-clause-faultless c =
    (made_records c.args.seed, c.in-Ok.ensures.nav_accepted)

pub read_faultless-requires-2-clause-short : goal.read_faultless-requires-2-clause-short
read_faultless-requires-2-clause-short c =
    obs_short c.args.seed c.args.epochs c.in-Ok.made c.in-Ok.ensures c.requires.to

pub read_faultless-requires-2-clause-faultless : goal.read_faultless-requires-2-clause-faultless
read_faultless-requires-2-clause-faultless c =
    let m = c.in-Ok.ensures in
    let s = c.in_ok-settings.settings in
    let e = (rw c.deref.ensures.value at c.in_ok-settings.ensures.value) _ m.settings_accepted in (
      seen c.args.seed c.args.epochs c.in-Ok.made m,
      rw (c.wants_position-position.ensures, c.alone-sought.ensures)
          (obs_all c.args.seed c.args.epochs c.in-Ok.made m s e),
    )

pub returns-clause-made : goal.returns-clause-made
returns-clause-made c =
    let m = c.in-Ok.ensures in
    let s = c.in_ok-settings.settings in
    let e = (rw c.deref.ensures.value at c.in_ok-settings.ensures.value) _ m.settings_accepted in
    let nav = c.in_ok-nav.ensures.value _ m.nav_accepted in
    let for = obs_for c.args.seed c.args.epochs c.in-Ok.made m s e in
    let obs = c.in_ok-obs.ensures.value
    (seen c.args.seed c.args.epochs c.in-Ok.made m) (rw (c.wants_position-position.ensures, c.alone-sought.ensures)
    (obs_all c.args.seed c.args.epochs c.in-Ok.made m s e)) in
    record {
      made = c.in-Ok.made;
      is_made = m;
      settings = rw e m.settings_accepted;
      nav = rw nav m.nav_accepted;
      alone = refl;
      obs = rw obs for;
    }

pub returns-clause-enough : goal.returns-clause-enough
returns-clause-enough c =
    let o = c.in_ok-obs.ensures.usual in
    record {
      centre = enough c.in_ok-settings.settings.centre c.in_ok-obs.obs.position
          (rw c.wants_position-position.ensures at o.known);
      usual = o.usual;
      ages = tt;
      inside = λ root is. tt;
    }
