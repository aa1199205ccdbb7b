-- A text that reads as the made table has the made settings.
use Rattle.std.proofs.Common.{◌≡◌, ℕ, true, List, [], ◌∷◌, refl, sym, ap, ◌∙◌, arith, None, Some, Ok}
use Rattle.std.specs.Prelude.{ℤ, pos, neg_ℤ, IsUtf8}
use Rattle.std.proofs.lemmas.Int.{ints}
use Rattle.grid_model.specs.Sizes.{IsWithin}
use Rattle.toml.specs.Data.{no_members}
use Rattle.toml.specs.Parse.{parse_document}
use Rattle.error_bounds.specs.Forms.{is_coordinate, um}
use Rattle.error_bounds.specs.Keys as key
use Rattle.error_bounds.specs.Keys.{Test, value_of, fault_in, first_found, tests, own_tests, sats_from}
use Rattle.error_bounds.specs.Texts.{IsSettings}
use Rattle.error_bounds.specs.declared.settings.Centre.TheVariants.{At}
use Rattle.std.proofs.Common.{String, Global, Ordering, Less, Equal, Greater, string_bytes}
use Rattle.std.specs.BTreeMap.{insert_entry}
use Rattle.std.specs.String.{string_cmp}
use Rattle.std.specs.Ordering.{match_ordering}
use Rattle.toml.specs.View.{view, members_view}
use Rattle.toml.specs.declared.value.Value.{Value}
use Rattle.toml.proofs.Views.{Entry}
use Rattle.made_texts.specs.SettingsText.{put_member, settings_table, settings_of, AreNear}
use Rattle.error_bounds.proofs.KeyLemmas.{empty_tests as none_of, empty_extra as no_extra}

coordinate : (x : ℤ) → IsWithin 8500000000 x → is_coordinate x ≡ true
coordinate x h = grind (arith, ints, h.low, h.high)

centre_is : (x y z : ℤ) → AreNear x y z
    → value_of key.centre (settings_table x y z) ≡ Ok (At (record { x = um x; y = um y; z = um z }))
centre_is x y z near = rw (coordinate x near.0, coordinate y near.1, coordinate z near.2) refl

found_none : (t : Test) (more : List Test) → t.fault ≡ None → first_found more ≡ None
    → first_found (t ∷ more) ≡ None
found_none t more none later = rw (none, later) refl

faultless : (x y z : ℤ) → AreNear x y z → first_found (tests (settings_table x y z)) ≡ None
faultless x y z near = found_none (key.test key.centre (settings_table x y z)) (own_tests no_members (sats_from 71 1)) (ap fault_in (centre_is x y z near)) (none_of (sats_from 71 1))

pub settings_read : (text : List ℕ) (x y z : ℤ) → AreNear x y z → IsUtf8 text
    → parse_document text ≡ Some (settings_table x y z) → IsSettings text (settings_of x y z)
settings_read text x y z near utf8 parsed = record {
  tree = settings_table x y z;
  is_tree = record { utf8 = utf8; parsed = parsed };
  faultless = faultless x y z near;
  known = refl;
  value = record {
    centre = centre_is x y z near;
    half = refl;
    outliers = refl;
    bisections = refl;
    width = refl;
    max_age = refl;
    renew = refl;
    pairs = refl;
    directions = refl;
    signal = refl;
    receiver = (neg_ℤ (pos 2500000), pos 2500000);
    is_receiver = refl;
    orbit_clock = (pos 0, pos 0);
    is_orbit_clock = refl;
    ionosphere = (pos 0, pos 0);
    is_ionosphere = refl;
    troposphere = (pos 0, pos 0);
    is_troposphere = refl;
    common = refl;
    extra = sym (no_extra (sats_from 71 1));
    zenith = refl;
    vertical = refl;
    galileo = refl;
    speed = refl;
    restart = refl;
    station = refl;
  };
}

-- ---- tables

members_by : (o : Ordering) (a b c : List Entry)
    → members_view (match_ordering o a b c) ≡ match_ordering o (members_view a) (members_view b) (members_view c)
members_by Less a b c = refl
members_by Equal a b c = refl
members_by Greater a b c = refl

pub put_view : (k : String Global) (v : Value) (es : List Entry)
    → members_view (insert_entry string_cmp es k v) ≡ put_member (string_bytes k) (view v) (members_view es)
put_view k v [] = refl
put_view k v (e ∷ es) =
    members_by (string_cmp k e.0) ((k, v) ∷ e ∷ es) ((e.0, v) ∷ es) (e ∷ insert_entry string_cmp es k v)
    ∙ (rw (put_view k v es) refl)
