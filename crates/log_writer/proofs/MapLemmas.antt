-- What came from a source, said of a plainer value of it.
use Rattle.std.proofs.Common.{◌≡◌, ℕ, List, [], ◌∷◌, Option, None, Some, Result, Ok, Err, ap, subst, ◌∙◌}
use Rattle.std.specs.Prelude.{is_some}
use Rattle.bound_directions.specs.declared.directions.Directions.{Directions}
use Rattle.sat_model.specs.declared.rules.Rules.{Rules}
use Rattle.grid_model.specs.Boxes.{GridBox}
use Rattle.sat_model.specs.Logs.{Block}
use Rattle.paving.specs.Renewing.{Maker}
use Rattle.log_writer.specs.declared.fault.WriteFault.{WriteFault}
use Rattle.log_writer.specs.Breaks.{BrokeOff}
use Rattle.log_writer.specs.Kept.{hull_kept, hull_of_last}
use Rattle.log_writer.specs.Pavings.{Paves, Begins}
use Rattle.log_writer.specs.Pieces.{pieces_with, version_of}
use Rattle.log_writer.specs.Sources.{Source, version_from, Came, IsInHand}
use Rattle.log_writer.specs.Texts.{IsText}

-- the plainer source gives what the first gives, has the same maker, and asks for the same bounds
module _ {B C : Type 0} (source : Source B) (other : Source C) (value : B → C)
    (each : (old : B) (hull : Option GridBox) (next : Option Block) (new : B) → source.gives old hull next new → other.gives (value old) hull next (value new))
    (maker : (b : B) → source.maker b ≡ other.maker (value b)) (same : source.directions ≡ other.directions) (rules : Rules) where
  paves_map : (next : B) (given b : Block)
      → Paves source.directions (source.maker next) rules given b
      → Paves other.directions (other.maker (value next)) rules given b
  paves_map next given b paves =
      subst (λ (d : Option Directions). Paves d (other.maker (value next)) rules given b) same
      (subst (λ (m : Maker). Paves source.directions m rules given b) (maker next) paves)

  same_version : (first : B) → version_from source rules first ≡ version_from other rules (value first)
  same_version first = λ i. version_of rules (maker first i).active (is_some (same i))

  pub came_map : (first last : B) (hull : Option GridBox) (blocks : List Block)
      → Came source rules first hull blocks last
      → Came other rules (value first) hull blocks (value last)
  came_map first last hull [] came = ap value came
  came_map first last hull (b ∷ blocks) (given, next, gave, paves, later) =
      (given, value next, each first hull (Some given) next gave, paves_map next given b paves, came_map next last (hull_kept b.body) blocks later)

  pub hand_map : (behind : B) (hull : Option GridBox) (hand : Option Block)
      → IsInHand source rules behind hull hand → IsInHand other rules (value behind) hull hand
  hand_map behind hull None in_hand = tt
  hand_map behind hull (Some b) (given, next, gave, begins) =
      (given, value next, each behind hull (Some given) next gave, subst (λ (m : Maker). Begins m rules given b) (maker next) begins)

  pub text_map : {T : Type 0} (first last : B) (limit : ℕ) (r : Result T WriteFault) (bytes said : List ℕ)
      → IsText source rules first last limit r bytes said
      → IsText other rules (value first) (value last) limit r bytes said
  text_map first last limit (Ok done) bytes said w = record {
    log = w.log;
    version = w.version ∙ same_version first;
    same_rules = w.same_rules;
    behind = value w.behind;
    came = came_map first w.behind None w.log.blocks w.came;
    no_more = each w.behind (hull_of_last None w.log.blocks) None last w.no_more;
    text = w.text;
    report = w.report;
    judged = w.judged;
    cover = w.cover;
    fits = w.fits;
  }
  text_map first last limit (Err fault) bytes said w = record {
    blocks = w.blocks;
    behind = value w.behind;
    came = came_map first w.behind None w.blocks w.came;
    hand = w.hand;
    in_hand = hand_map w.behind (hull_of_last None w.blocks) w.hand w.in_hand;
    broke = subst (λ (n : ℕ). BrokeOff limit (pieces_with (record { version = n; rules = rules; blocks = w.blocks }) w.hand) fault bytes said) (same_version first) w.broke;
  }
