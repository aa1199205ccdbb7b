use Rattle.std.proofs.Common.{◌∙◌, ap, List, ℕ}
use Rattle.toml.specs.View.{view, members_view, table_view}
use Rattle.made_texts.specs.SettingsText.{put_member}
use Rattle.made_texts.proofs.SettingsLemmas.{put_view}
use Rattle.made_texts.proofs.settings.put.Goals as goal

pub returns : goal.returns
returns c =
    ap members_view c.in_ok-insert.ensures.entries
    ∙ (put_view c.in_ok-key.key c.args.value c.args.table.now.entries
    ∙ ap (λ (k : List ℕ). put_member k (view c.args.value) (table_view c.args.table.now)) c.in_ok-key.ensures.ok)
