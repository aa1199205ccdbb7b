-- What a log's file and `out` got where a log is written of the blocks of a source, up to a limit
-- on its bytes.
use Rattle.std.specs.Prelude.{◌≡◌, ℕ, ◌≤◌, List, length, Option, None, Result, Ok, Err}
use Rattle.sat_model.specs.declared.rules.Rules.{Rules}
use Rattle.sat_model.specs.Cover.{RowCover}
use Rattle.sat_model.specs.Logs.{Block, LogValue}
use Rattle.sat_model.specs.Verdicts.{Judged}
use Rattle.log_lines.specs.Text.{IsLogText}
use Rattle.epoch_report.specs.Reports.{report_text}
use Rattle.log_writer.specs.declared.fault.WriteFault.{WriteFault}
use Rattle.log_writer.specs.Breaks.{BrokeOff}
use Rattle.log_writer.specs.Kept.{hull_of_last}
use Rattle.log_writer.specs.Pieces.{pieces_with}
use Rattle.log_writer.specs.Sources.{Source, version_from, Came, IsInHand}

-- The text and the report of one log. Its blocks are all that the source gave, each one paved
-- before the next was given; then it had no more, and stood so. The log passes all tests, and its
-- cover by the rows holds.
pub record IsWhole {B : Type 0} (source : Source B) (rules : Rules) (first last : B) (limit : ℕ)
    (bytes said : List ℕ) : Type 0 where
  pub log : LogValue
  pub version : log.version ≡ version_from source rules first
  pub same_rules : log.rules ≡ rules
  pub behind : B
  pub came : Came source rules first None log.blocks behind
  pub no_more : source.gives behind (hull_of_last None log.blocks) None last
  pub text : IsLogText log bytes
  pub report : said ≡ report_text log
  pub judged : Judged log
  pub cover : RowCover log
  pub fits : length bytes ≤ limit

-- What this fault left of the head, of blocks whose runs are whole, the last one with the bounds
-- that were found so far, and of the first lines of one more whose run broke off, where one was in
-- hand. They came from the source, each when the one before was finished. That a run which broke
-- off goes on to the end isn't said, and nothing is of later blocks.
pub record IsBegun {B : Type 0} (fault : WriteFault) (source : Source B) (rules : Rules) (first : B)
    (limit : ℕ) (bytes said : List ℕ) : Type 0 where
  pub blocks : List Block
  pub behind : B
  pub came : Came source rules first None blocks behind
  pub hand : Option Block
  pub in_hand : IsInHand source rules behind (hull_of_last None blocks) hand
  pub broke : BrokeOff limit (pieces_with (record {
    version = version_from source rules first;
    rules = rules;
    blocks = blocks;
  }) hand) fault bytes said

-- by how the writing ended, of the source before and behind it
abbrev pub IsText : {B T : Type 0} → Source B → Rules → (first last : B) → ℕ → Result T WriteFault
    → (bytes said : List ℕ) → Type 0
IsText source rules first last limit (Ok done) bytes said =
    IsWhole source rules first last limit bytes said
IsText source rules first last limit (Err fault) bytes said =
    IsBegun fault source rules first limit bytes said
