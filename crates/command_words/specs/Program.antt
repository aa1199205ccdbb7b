-- The command line of the program as clap sees it: one command with a subcommand each, without help
-- or version words. This definition is what the words are judged by.
use Rattle.std.specs.Prelude.{true, List, [], ◌∷◌, Some, codes, fold}
use Rattle.clap.specs.Walk.{Text}
use Rattle.clap.specs.declared.builder.action.ArgAction.TheVariants.{SetTrue}
use Rattle.clap.specs.Simple.{App, new_app, new_rule, new_shape, with_rule, with_subcommand}

-- one more required word
abbrev pub with_word : App → Text → App
with_word app id = with_rule app (record (new_rule id) { required = true })

-- one more long option of one text
abbrev pub with_option : App → Text → App
with_option app id = with_rule app (record (new_rule id) { long = Some id })

-- one more flag, without a text
abbrev pub with_flag : App → Text → App
with_flag app id = with_rule app (record (new_rule id) { long = Some id; action = Some SetTrue })

-- a command's name, its required words, and its options, with a text or without
pub record Form : Type 0 where
  pub name : Text
  pub words : List Text
  pub options : List Text
  pub flags : List Text

abbrev pub form_app : Form → App
form_app f =
    let words = fold with_word (new_app f.name) f.words in
    fold with_flag (fold with_option words f.options) f.flags

-- `judge LOG`
abbrev pub judge_form : Form
judge_form = record { name = codes "judge"; words = codes "log" ∷ []; options = []; flags = [] }

-- `--quiet`, of the commands that write a log and print its report
abbrev pub quiet_flag : List Text
quiet_flag = codes "quiet" ∷ []

-- `pave ROWS LOG`, with that flag
abbrev pub pave_form : Form
pave_form = record {
  name = codes "pave";
  words = codes "rows" ∷ codes "log" ∷ [];
  options = [];
  flags = quiet_flag;
}

-- `--from N`, `--to N` and `--station FILE`
abbrev pub file_options : List Text
file_options = codes "from" ∷ codes "to" ∷ codes "station" ∷ []

-- of a receiver that moves `--after FILE` too
abbrev pub track_options : List Text
track_options = codes "from" ∷ codes "to" ∷ codes "station" ∷ codes "after" ∷ []

-- `solve OBS NAV SETTINGS LOG`, and `check`, `track` and `retrack` with the same words, each with
-- its options and flags
abbrev pub files_form : Text → List Text → List Text → Form
files_form name options flags = record {
  name = name;
  words = codes "obs" ∷ codes "nav" ∷ codes "settings" ∷ codes "log" ∷ [];
  options = options;
  flags = flags;
}

-- `guard OBS NAV SETTINGS ZONES LOG`, with `--track` too
abbrev pub guard_form : Form
guard_form = record {
  name = codes "guard";
  words = codes "obs" ∷ codes "nav" ∷ codes "settings" ∷ codes "zones" ∷ codes "log" ∷ [];
  options = track_options;
  flags = codes "track" ∷ [];
}

-- `make SEED EPOCHS`
abbrev pub make_form : Form
make_form = record {
  name = codes "make";
  words = codes "seed" ∷ codes "epochs" ∷ [];
  options = [];
  flags = [];
}

abbrev pub forms : List Form
forms = judge_form ∷ pave_form ∷ files_form (codes "solve") file_options quiet_flag
    ∷ files_form (codes "check") file_options []
    ∷ files_form (codes "track") track_options quiet_flag
    ∷ files_form (codes "retrack") track_options [] ∷ guard_form ∷ make_form ∷ []

abbrev pub bare : App
bare = record {
  top = record (new_shape (codes "gpscover")) {
    no_binary_name = true;
    disable_help_flag = true;
    disable_help_subcommand = true;
    disable_version_flag = true;
    subcommand_required = true;
  };
  subs = [];
}

abbrev pub with_command : App → App → App
with_command app sub = with_subcommand app sub.top

abbrev pub with_form : App → Form → App
with_form app form = with_command app (form_app form)

abbrev pub program : App
program = fold with_form bare forms
