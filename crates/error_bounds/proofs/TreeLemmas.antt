-- A tree's first fault, table by table.
use Rattle.std.proofs.Common.{◌≡◌, ◌++◌, List, None, refl, ◌∙◌, inl, inr}
use Rattle.toml.specs.Data.{Members}
use Rattle.error_bounds.specs.Keys.{Test, tests, search_tests, directions_tests, signal_tests, bounds_tests, galileo_tests, motion_tests, station_tests, satellite_tests, first_found}
use Rattle.error_bounds.specs.Names.{unknown}
use Rattle.error_bounds.specs.Reading.{TellsFirst, RefusesTests, RefusesTree, RefusesName}
use Rattle.error_bounds.specs.declared.fault.Fault.TheVariants.{Unknown}
use Rattle.error_bounds.specs.declared.fault.SettingsError.{SettingsError}
use Rattle.error_bounds.specs.declared.fault.SettingsError.TheVariants.{Refused, NoMemory}
use Rattle.error_bounds.specs.declared.fault.SettingsFault.{SettingsFault}
use Rattle.error_bounds.proofs.KeyLemmas.{found_before, found_behind}

abbrev behind_motion : Members → List Test
behind_motion tree = station_tests tree ++ satellite_tests tree

abbrev behind_galileo : Members → List Test
behind_galileo tree = motion_tests tree ++ behind_motion tree

abbrev behind_bounds : Members → List Test
behind_bounds tree = galileo_tests tree ++ behind_galileo tree

abbrev behind_signal : Members → List Test
behind_signal tree = bounds_tests tree ++ behind_bounds tree

abbrev behind_directions : Members → List Test
behind_directions tree = signal_tests tree ++ behind_signal tree

abbrev behind_search : Members → List Test
behind_search tree = directions_tests tree ++ behind_directions tree

module _ (tree : Members) (a : first_found (search_tests tree) ≡ None) where
  after_search : first_found (tests tree) ≡ first_found (behind_search tree)
  after_search = found_behind (search_tests tree) (behind_search tree) a

  module _ (w : first_found (directions_tests tree) ≡ None) where
    after_directions : first_found (tests tree) ≡ first_found (behind_directions tree)
    after_directions = after_search ∙ found_behind (directions_tests tree) (behind_directions tree) w

    module _ (b : first_found (signal_tests tree) ≡ None) where
      after_signal : first_found (tests tree) ≡ first_found (behind_signal tree)
      after_signal = after_directions ∙ found_behind (signal_tests tree) (behind_signal tree) b

      module _ (d : first_found (bounds_tests tree) ≡ None) where
        after_bounds : first_found (tests tree) ≡ first_found (behind_bounds tree)
        after_bounds = after_signal ∙ found_behind (bounds_tests tree) (behind_bounds tree) d

        module _ (g : first_found (galileo_tests tree) ≡ None) where
          after_galileo : first_found (tests tree) ≡ first_found (behind_galileo tree)
          after_galileo = after_bounds ∙ found_behind (galileo_tests tree) (behind_galileo tree) g

          module _ (m : first_found (motion_tests tree) ≡ None) where
            after_motion : first_found (tests tree) ≡ first_found (behind_motion tree)
            after_motion = after_galileo ∙ found_behind (motion_tests tree) (behind_motion tree) m

            module _ (s : first_found (station_tests tree) ≡ None) where
              after_station : first_found (tests tree) ≡ first_found (satellite_tests tree)
              after_station = after_motion ∙ found_behind (station_tests tree) (satellite_tests tree) s

              pub all_none : first_found (satellite_tests tree) ≡ None → first_found (tests tree) ≡ None
              all_none e = after_station ∙ e

              pub from_satellites : (error : SettingsError) → RefusesTests (satellite_tests tree) error
                  → RefusesTree tree error
              from_satellites NoMemory refused = tt
              from_satellites (Refused told) (found, here, tells) = (found, inl (after_station ∙ here), tells)

            pub from_station : (told : SettingsFault) → TellsFirst (station_tests tree) told
                → RefusesTree tree (Refused told)
            from_station told (found, here, tells) = (found, inl (after_motion ∙ found_before (station_tests tree) (satellite_tests tree) found here), tells)

          pub from_motion : (told : SettingsFault) → TellsFirst (motion_tests tree) told
              → RefusesTree tree (Refused told)
          from_motion told (found, here, tells) = (found, inl (after_galileo ∙ found_before (motion_tests tree) (behind_motion tree) found here), tells)

        pub from_galileo : (told : SettingsFault) → TellsFirst (galileo_tests tree) told
            → RefusesTree tree (Refused told)
        from_galileo told (found, here, tells) = (found, inl (after_bounds ∙ found_before (galileo_tests tree) (behind_galileo tree) found here), tells)

      pub from_bounds : (told : SettingsFault) → TellsFirst (bounds_tests tree) told
          → RefusesTree tree (Refused told)
      from_bounds told (found, here, tells) = (found, inl (after_signal ∙ found_before (bounds_tests tree) (behind_bounds tree) found here), tells)

    pub from_signal : (told : SettingsFault) → TellsFirst (signal_tests tree) told
        → RefusesTree tree (Refused told)
    from_signal told (found, here, tells) = (found, inl (after_directions ∙ found_before (signal_tests tree) (behind_signal tree) found here), tells)

  pub from_directions : (told : SettingsFault) → TellsFirst (directions_tests tree) told
      → RefusesTree tree (Refused told)
  from_directions told (found, here, tells) = (found, inl (after_search ∙ found_before (directions_tests tree) (behind_directions tree) found here), tells)

pub from_search : (tree : Members) (told : SettingsFault) → TellsFirst (search_tests tree) told
    → RefusesTree tree (Refused told)
from_search tree told (found, here, tells) = (found, inl (found_before (search_tests tree) (behind_search tree) found here), tells)

pub from_names : (tree : Members) (error : SettingsError) → first_found (tests tree) ≡ None
    → RefusesName (unknown tree) error → RefusesTree tree error
from_names tree NoMemory none refused = tt
from_names tree (Refused told) none (name, first, tells) = (record { fault = Unknown; key = name }, inr (none, refl, first), tells)
