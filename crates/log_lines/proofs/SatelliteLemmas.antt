-- Satellites that are named, and named again.
use Rattle.std.proofs.Common.{◌≡◌, ◌≢◌, ℕ, ◌<◌, arith, false, ◌&&◌, nat_eq, List, length, get_or, take, map, refl, ap, ◌∙◌}
use Rattle.std.specs.List.{Contains}
use Rattle.std.proofs.lemmas.Bool.{eq-eqb, false≢true}
use Rattle.std.proofs.Math.ListN.{get_or-map}
use Rattle.std.proofs.lemmas.List.{get_or-take, length-map, length-take}
use Rattle.std.proofs.lemmas.Option.{slice_get-get_or}
use Rattle.gnss_model.specs.declared.satellites.Sat.{Sat}
use Rattle.sat_model.specs.declared.rows.SatEntry.{SatEntry}
use Rattle.sat_model.specs.Logs.{sat_of}
use Rattle.sat_model.specs.Verdicts.{IsRepeat}

pub other_satellite : (a b : Sat) → false ≡ (nat_eq a.system b.system && nat_eq a.number b.number)
    → a ≢ b
other_satellite a b h same =
    false≢true (h ∙ rw (eq-eqb a.system b.system (ap (λ (s : Sat). s.system) same), eq-eqb a.number b.number (ap (λ (s : Sat). s.number) same)) refl)

pub repeat_from : (sats : List SatEntry) (k : ℕ) (entry : SatEntry) → k < length sats
    → entry ≡ get_or sats k entry
    → Contains (map sat_of (take k sats)) (sat_of entry) → IsRepeat sats k
repeat_from sats k entry within is (i, less, same) =
    let short : i < k = omega (arith, length-map (take k sats) sat_of, length-take k sats) in
    let t = get_or-take k sats i entry short in
    let m = get_or-map sat_of (take k sats) i entry in
    let mi = get_or-map sat_of sats i entry in
    let mk = get_or-map sat_of sats k entry in
    let at_i = slice_get-get_or (map sat_of sats) i (sat_of entry) (omega (arith, length-map sats sat_of)) in
    let at_k = slice_get-get_or (map sat_of sats) k (sat_of entry) (omega (arith, length-map sats sat_of)) in
    record { earlier = i; is_earlier = short; is_line = within; same = cc }

pub repeat_named : (sats : List SatEntry) (k : ℕ) (entry : SatEntry) → entry ≡ get_or sats k entry
    → IsRepeat sats k → Contains (map sat_of (take k sats)) (sat_of entry)
repeat_named sats k entry is r =
    let t = get_or-take k sats r.earlier entry r.is_earlier in
    let m = get_or-map sat_of (take k sats) r.earlier entry in
    let mi = get_or-map sat_of sats r.earlier entry in
    let mk = get_or-map sat_of sats k entry in
    let at_i = slice_get-get_or (map sat_of sats) r.earlier (sat_of entry) (omega (arith, length-map sats sat_of)) in
    let at_k = slice_get-get_or (map sat_of sats) k (sat_of entry) (omega (arith, length-map sats sat_of)) in
    (r.earlier, omega (arith, length-map (take k sats) sat_of, length-take k sats), cc)
