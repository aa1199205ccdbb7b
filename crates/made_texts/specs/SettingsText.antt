-- The table of a settings text, and the settings that it has.
use Rattle.std.specs.Prelude.{ℕ, ℤ, pos, neg_ℤ, false, List, [], ◌∷◌, None, codes}
use Rattle.grid_model.specs.Sizes.{IsWithin}
use Rattle.gnss_model.specs.declared.satellites.Signal.TheVariants.{Single}
use Rattle.std.specs.Ordering.{nat_cmp, match_ordering}
use Rattle.std.specs.Cmp.Lexicographic.{slice_cmp}
use Rattle.toml.specs.Data.{Data, string, integer, array, table, Items, no_items, item, Members}
use Rattle.toml.specs.Data.{no_members, member}
use Rattle.error_bounds.specs.Forms.{um}
use Rattle.error_bounds.specs.Texts.{SettingsValue}
use Rattle.error_bounds.specs.declared.settings.Centre.TheVariants.{At}

-- a list of whole numbers
abbrev pub integers : List ℤ → Items
integers [] = no_items
integers (z ∷ zs) = item (integer z) (integers zs)

abbrev pub span : ℤ → ℤ → Data
span lo hi = array (integers (lo ∷ hi ∷ []))

abbrev pub bounds_table : Members
bounds_table =
    member (codes "ionosphere") (span (pos 0) (pos 0))
    (member (codes "orbit_clock") (span (pos 0) (pos 0))
    (member (codes "receiver") (span (neg_ℤ (pos 2500)) (pos 2500))
    (member (codes "troposphere") (span (pos 0) (pos 0))
    no_members)))

-- the centre is in mm
abbrev pub search_table : ℤ → ℤ → ℤ → Members
search_table x y z =
    member (codes "bisections") (integer (pos 64))
    (member (codes "centre") (array (integers (x ∷ y ∷ z ∷ [])))
    (member (codes "half") (integer (pos 50000))
    (member (codes "max_age") (integer (pos 7200))
    (member (codes "outliers") (integer (pos 1))
    (member (codes "width") (integer (pos 1000))
    no_members)))))

abbrev pub signal_table : Members
signal_table =
    member (codes "codes") (array (item (string (codes "C1C")) no_items))
    (member (codes "mode") (string (codes "single"))
    no_members)

abbrev pub settings_table : ℤ → ℤ → ℤ → Members
settings_table x y z =
    member (codes "bounds") (table bounds_table)
    (member (codes "search") (table (search_table x y z))
    (member (codes "signal") (table signal_table)
    no_members))

abbrev pub settings_of : ℤ → ℤ → ℤ → SettingsValue
settings_of x y z = record {
  centre = At (record { x = um x; y = um y; z = um z });
  half = record { x = pos 50000000; y = pos 50000000; z = pos 50000000 };
  outliers = 1;
  bisections = 64;
  width = pos 1000000;
  max_age = 7200;
  renew = false;
  pairs = false;
  directions = None;
  signal = Single (codes "C1C");
  common = (neg_ℤ (pos 2500000), pos 2500000);
  extra = [];
  zenith = None;
  vertical = None;
  galileo = None;
  speed = None;
  restart = false;
  station = None;
}

abbrev pub AreNear : ℤ → ℤ → ℤ → Type 0
AreNear x y z = IsWithin 8500000000 x × IsWithin 8500000000 y × IsWithin 8500000000 z

-- ---- a member put into a table, in the order of the keys

abbrev pub put_member : List ℕ → Data → Members → Members
put_member k d no_members = member k d no_members
put_member k d (member l e ms) = match_ordering (slice_cmp nat_cmp k l) (member k d (member l e
    ms)) (member l d ms) (member l e (put_member k d ms))
