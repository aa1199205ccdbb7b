use Rattle.std.proofs.Common.{◌≡◌, ℕ, [], ◌∷◌, length, refl, arith, true, false}
use Rattle.log_lines.specs.declared.line.Form.{Form}
use Rattle.log_lines.specs.declared.line.Place.{Place}
use Rattle.log_lines.specs.declared.line.Place.TheVariants as place
use Rattle.log_lines.specs.declared.line.LogLine.{LogLine}
use Rattle.log_lines.specs.declared.line.LogLine.TheVariants as line
use Rattle.paving_log.specs.declared.lines.Lines.{Lines}
use Rattle.log_lines.specs.declared.line.Header.{Header}
use Rattle.paving_log.specs.Taking.{Takes}
use Rattle.paving_log.proofs.BlockLemmas.{skip_taken, opening_taken, leads_to, takes_one}
use Rattle.paving_log.proofs.read.few_satellites.Goals as goal

pub satellites-preserved : goal.satellites-preserved
satellites-preserved c =
    let count : c.len.result ≡ length c.satellites.sats.items = omega arith in
    skip_taken c.args.form c.args.lines c.satellites.left c.in_ok-line.behind c.satellites.sats.items c.push.new.self.items c.in-Sat.entry c.in_ok-line.line c.len.result c.in_ok-line.field-0-1
    c.satellites.invariant.0 count c.in-Sat.is c.in_ok-line.ensures.taken c.in_ok-push-in-Sat.ensures.items

-- where the first line of a block leads
to_few : (f : Form) (k : ℕ) (old new : Lines) (h : Header) (l : LogLine) (to : Place)
    → l ≡ line.Few h → Takes (place.Few f k) old (l ∷ []) to new → to ≡ place.Few f 0
to_few f k old new h l to is taken = let e = leads_to (place.Few f k) old (line.Few h) to new (takes_one _ _ old l _ to _ new refl is refl taken) in cc

to_epoch : (f : Form) (k : ℕ) (old new : Lines) (h : Header) (l : LogLine) (to : Place)
    → l ≡ line.Epoch h → Takes (place.Few f k) old (l ∷ []) to new → to ≡ place.Satellites f h.n 0
to_epoch f k old new h l to is taken = let e = leads_to (place.Few f k) old (line.Epoch h) to new (takes_one _ _ old l _ to _ new refl is refl taken) in cc

pub returns-in-Few-clause-taken : goal.returns-in-Few-clause-taken
returns-in-Few-clause-taken c =
    let count : c.len.result ≡ length c.satellites.sats.items = omega arith in
    opening_taken c.args.form c.args.lines c.satellites.left c.in_ok-line.behind c.satellites.sats.items (record { few = true; header = c.in-Few.header; line = c.satellites.left.number }) c.in_ok-line.line c.len.result c.in_ok-line.field-0-1
    c.satellites.invariant.0 count c.in-Few.is (to_few _ _ _ _ _ _ _ c.in-Few.is c.in_ok-line.ensures.taken) c.in_ok-line.ensures.taken refl

pub returns-in-Epoch-clause-taken : goal.returns-in-Epoch-clause-taken
returns-in-Epoch-clause-taken c =
    let count : c.len.result ≡ length c.satellites.sats.items = omega arith in
    opening_taken c.args.form c.args.lines c.satellites.left c.in_ok-line.behind c.satellites.sats.items (record { few = false; header = c.in-Epoch.header; line = c.satellites.left.number }) c.in_ok-line.line c.len.result c.in_ok-line.field-0-1
    c.satellites.invariant.0 count c.in-Epoch.is (to_epoch _ _ _ _ _ _ _ c.in-Epoch.is c.in_ok-line.ensures.taken) c.in_ok-line.ensures.taken refl
