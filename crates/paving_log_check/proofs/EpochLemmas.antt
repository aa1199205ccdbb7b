-- A block whose own lines pass is decided by its body.
use Rattle.std.proofs.Common.{◌≡◌, ℕ, ◌+◌, arith, List, length, subst, sym, inl, inr, Option, None, Some, Result, Ok, Err}
use Rattle.std.specs.Prelude.{IfOk, MatchOption}
use Rattle.grid_model.specs.Boxes.{GridBox}
use Rattle.sat_model.specs.declared.rows.Row.{Row}
use Rattle.sat_model.specs.Logs.{Body, Block, is_few, rows_of}
use Rattle.grid_model.specs.declared.memory.NoMemory.{NoMemory}
use Rattle.sat_model.specs.declared.rules.Rules.{Rules}
use Rattle.gnss_model.specs.declared.delays.Delays.{Delays}
use Rattle.sat_rows.specs.declared.bases.Base.{Base}
use Rattle.sat_rows.specs.declared.lines.SatLine.{SatLine}
use Rattle.paving_log_check.specs.Epochs.{Counts, IsWhole, BodyPassesAt}
use Rattle.paving_log_check.specs.Forming.{AreManyBefore, ClosingHolds, ClosingBreaks, BodyHolds, BodyBreaks, EpochHolds, EpochBreaks}
use Rattle.paving_log_check.specs.Lines.{expected, SatsPass}
use Rattle.paving_log_check.specs.OwnLines.{behind_root}
use Rattle.paving_log_check.specs.declared.verdict.Fault.{Fault}
use Rattle.paving_log_check.proofs.BeforeLemmas.{all_before}

module _ (delays : Delays) (rules : Rules) (root : GridBox) (lines : List SatLine) (bases : List Base) (block : Block) (body : Body) where
  body_decides : (found : Option Fault)
      → Counts lines block → SatsPass delays block.sats (expected (is_few block) lines)
      → IsWhole lines block → block.body ≡ Some body
      → MatchOption found (BodyHolds delays rules root bases block body) (λ fault. BodyBreaks delays rules root bases block body fault)
      → MatchOption found (EpochHolds delays rules root lines bases block) (λ fault. EpochBreaks delays rules root lines bases block fault)
  body_decides None counts sats whole is h = record {
    renewed = h.renewed;
    formed = rw is h.formed;
    many = rw is h.many;
    passes = record {
      counts = counts;
      sats = sats;
      whole = whole;
      body = subst (λ (o : Option Body). BodyPassesAt delays rules root h.renewed block o) (sym is) h.passes;
    };
  }
  body_decides (Some fault) counts sats whole is h = record {
    renewed = h.renewed;
    formed = rw is h.formed;
    many = rw is h.many;
    fails = inr (inr (inr (record { counts = counts; sats = sats; whole = whole; body = body; is_body = is; fails = h.fails })));
  }

  pub body_decided : (result : Result (Option Fault) NoMemory)
      → Counts lines block → SatsPass delays block.sats (expected (is_few block) lines)
      → IsWhole lines block → block.body ≡ Some body
      → IfOk result (λ found. MatchOption found (BodyHolds delays rules root bases block body) (λ fault. BodyBreaks delays rules root bases block body fault))
      → IfOk result (λ found. MatchOption found (EpochHolds delays rules root lines bases block) (λ fault. EpochBreaks delays rules root lines bases block fault))
  body_decided (Ok found) counts sats whole is h = body_decides found counts sats whole is h
  body_decided (Err e) counts sats whole is h = tt

  -- ---- the body

  -- behind the given root it is decided by what stands there
  pub body_at : (result : Result (Option Fault) NoMemory) (firsts : List Row) (line : ℕ)
      → body.root ≡ root → firsts ≡ rows_of block.sats
      → IfOk result (λ found. MatchOption found (ClosingHolds delays root firsts bases rules body)
      (λ fault. (k : ℕ) × ClosingBreaks delays root firsts bases rules body k fault × (fault.line ≡ line + k)))
      → line ≡ block.line + 2 + length block.sats
      → IfOk result (λ found. MatchOption found (BodyHolds delays rules root bases block body) (λ fault. BodyBreaks delays rules root bases block body fault))
  body_at (Ok None) firsts line same is h begins = record {
    renewed = h.events.renewed;
    formed = h.events.formed;
    many = h.events.many;
    passes = (same, record { events = rw same (rw is at h.events.passes); bounds = rw same (rw is at h.bounds) });
  }
  body_at (Ok (Some fault)) firsts line same is (k, inl f, at) begins = record {
    renewed = f.renewed;
    formed = f.formed;
    many = subst (λ (n : ℕ). AreManyBefore bases n body.events f.renewed) (omega (arith, at, begins)) f.many;
    fails = inr (record { same = same; k = k; fails = inl (rw same (rw is at f.fails)); line = omega (arith, at, begins) });
  }
  body_at (Ok (Some fault)) firsts line same is (k, inr f, at) begins = record {
    renewed = f.events.renewed;
    formed = f.events.formed;
    many = all_before bases (behind_root fault.line block) body.events f.events.renewed f.events.many;
    fails = inr (record {
      same = same;
      k = k;
      fails = inr (record {
        events = rw same (rw is at f.events.passes);
        m = f.m;
        unshown = rw same (rw is at f.unshown);
        line = f.line;
        number = f.number;
        plain = f.no_spans;
      });
      line = omega (arith, at, begins);
    });
  }
  body_at (Err e) firsts line same is h begins = tt
