use Rattle.std.proofs.Common.{◌≡◌, ◌≤◌, ap, sym, subst, arith, List, ℕ, Some, Vec, Global, false, to_z, of_z}
use Rattle.std.specs.Int.{w64}
use Rattle.std.proofs.lemmas.Int.{ints}
use Rattle.std.proofs.lemmas.Str.{IsUtf8-had}
use Rattle.toml.specs.Data.{Members, members_depth}
use Rattle.toml.specs.Parse.{parse_document}
use Rattle.toml.specs.Text.{IsDocumentText}
use Rattle.error_bounds.specs.Texts.{IsSettings}
use Rattle.made_texts.specs.SettingsText.{settings_table, settings_of}
use Rattle.made_texts.proofs.SettingsLemmas.{settings_read}
use Rattle.made_texts.proofs.settings.settings_text.Goals as goal

pub returns-in-Ok-clause-text : goal.returns-in-Ok-clause-text
returns-in-Ok-clause-text c =
    let x : to_z w64 (of_z w64 c.args.x) ≡ c.args.x = omega (arith, ints) in
    let y : to_z w64 (of_z w64 c.args.y) ≡ c.args.y = omega (arith, ints) in
    let z : to_z w64 (of_z w64 c.args.z) ≡ c.args.z = omega (arith, ints) in
    let tables = rw (x, y, z) at c.in_ok-table.ensures in
    let same = ap (λ (v : Vec ℕ Global). v.items) c.into_bytes.ensures.value in
    subst (λ (text : List ℕ). IsDocumentText false (settings_table c.args.x c.args.y c.args.z) text) (sym same)
    (subst (λ (m : Members). IsDocumentText false m c.in-Ok.text.bytes.items) tables c.in-Ok.ensures.text)

pub returns-in-Ok-clause-accepted : goal.returns-in-Ok-clause-accepted
returns-in-Ok-clause-accepted c =
    let x : to_z w64 (of_z w64 c.args.x) ≡ c.args.x = omega (arith, ints) in
    let y : to_z w64 (of_z w64 c.args.y) ≡ c.args.y = omega (arith, ints) in
    let z : to_z w64 (of_z w64 c.args.z) ≡ c.args.z = omega (arith, ints) in
    let tables = rw (x, y, z) at c.in_ok-table.ensures in
    let same = ap (λ (v : Vec ℕ Global). v.items) c.into_bytes.ensures.value in
    let reads = subst (λ (m : Members). members_depth m ≤ 80 → parse_document c.in-Ok.text.bytes.items ≡ Some m) tables c.in-Ok.ensures.reads_back in
    subst (λ (text : List ℕ). IsSettings text (settings_of c.args.x c.args.y c.args.z)) (sym same)
    (settings_read c.in-Ok.text.bytes.items c.args.x c.args.y c.args.z c.requires.near (IsUtf8-had c.in-Ok.text.bytes.items c.in-Ok.text.ok) (reads (omega arith)))
