-- The place of a made receiver and the centre of its search box, as the code forms them.
use Rattle.std.proofs.Common.{◌≡◌, ℕ, ◌*◌, ◌^◌, ◌≤◌, List, subst, arith, to_z, of_z, false}
use Rattle.std.specs.Prelude.{ℤ, pos}
use Rattle.std.specs.Int.{w64}
use Rattle.std.proofs.lemmas.Int.{ints}
use Rattle.toml.specs.Text.{IsDocumentText}
use Rattle.error_bounds.specs.Texts.{IsSettings}
use Rattle.grid_model.specs.declared.boxes.Pos.{Pos}
use Rattle.made_texts.specs.SettingsText.{settings_table, settings_of}
use Rattle.made_input.specs.MadeCodes.{place_of, place_x, place_y, place_z}

um_is : (n m : ℕ) (a : ℤ) → n ≤ 5000000 → a ≡ pos (n * 10 ^ 6) → n ≡ m
    → to_z w64 (of_z w64 a) ≡ pos (m * 10 ^ 6)
um_is n m a few is same = omega (arith, ints, few, is, same)

abbrev pub pos_at : ℤ → ℤ → ℤ → Pos
pos_at x y z = record { x = x; y = y; z = z }

same_pos : (a b c x y z : ℤ) → a ≡ x → b ≡ y → c ≡ z → pos_at a b c ≡ pos_at x y z
same_pos a b c x y z p q r = λ i. pos_at (p i) (q i) (r i)

pub place_made : (seed x y z : ℕ) (a b c : ℤ) → x ≡ place_x seed → y ≡ place_y seed
    → z ≡ place_z seed → x ≤ 5000000 → y ≤ 5000000 → z ≤ 5000000
    → a ≡ pos (x * 10 ^ 6) → b ≡ pos (y * 10 ^ 6) → c ≡ pos (z * 10 ^ 6)
    → pos_at (to_z w64 (of_z w64 a)) (to_z w64 (of_z w64 b)) (to_z w64 (of_z w64 c)) ≡ place_of seed
place_made seed x y z a b c p q r k l m e f g =
    same_pos _ _ _ (pos (place_x seed * 10 ^ 6)) (pos (place_y seed * 10 ^ 6)) (pos (place_z seed * 10 ^ 6)) (um_is x (place_x seed) a k e p) (um_is y (place_y seed) b l f q) (um_is z (place_z seed) c m g r)

table_moved : (text : List ℕ) (x y z a b c : ℤ) → IsDocumentText false (settings_table x y z) text
    → x ≡ a → y ≡ b → z ≡ c → IsDocumentText false (settings_table a b c) text
table_moved text x y z a b c t p q r = subst (λ (w : ℤ). IsDocumentText false (settings_table a b w) text) r (subst (λ (w : ℤ). IsDocumentText false (settings_table a w z) text) q (subst (λ (w : ℤ). IsDocumentText false (settings_table w y z) text) p t))

settings_moved : (text : List ℕ) (x y z a b c : ℤ) → IsSettings text (settings_of x y z) → x ≡ a
    → y ≡ b → z ≡ c → IsSettings text (settings_of a b c)
settings_moved text x y z a b c t p q r = subst (λ (w : ℤ). IsSettings text (settings_of a b w)) r (subst (λ (w : ℤ). IsSettings text (settings_of a w z)) q (subst (λ (w : ℤ). IsSettings text (settings_of w y z)) p t))

-- a text of settings around one centre is one of settings around the same centre
pub centre_moved : (text : List ℕ) (x y z a b c : ℤ)
    → IsDocumentText false (settings_table x y z) text → IsSettings text (settings_of x y z) → x ≡ a
    → y ≡ b → z ≡ c
    → IsDocumentText false (settings_table a b c) text × IsSettings text (settings_of a b c)
centre_moved text x y z a b c t s p q r = (table_moved text x y z a b c t p q r, settings_moved text x y z a b c s p q r)
