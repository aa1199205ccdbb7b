-- What `track` writes: the log of a receiver that moves, each epoch over the root that the one
-- before leaves.
use Rattle.std.specs.Prelude.{◌≡◌, ℕ, ◌++◌, Bool, true, false, List, [], ◌∷◌, length, Option, None}
use Rattle.std.specs.Prelude.{Some, Ok, Err, codes, decimal, drop}
use Rattle.sharpness_laws.specs.Left.{BlocksLeaveNothingClear, LogLeavesNothingClear}
use Rattle.command_words.specs.Commands.{Files}
use Rattle.epoch_rows.specs.EpochsLeft.{EpochsLeft, left_in}
use Rattle.epoch_selection.specs.Searches.{Search}
use Rattle.epoch_selection.specs.declared.selection.Selection.{Selection}
use Rattle.grid_model.specs.Boxes.{GridBox}
use Rattle.input_files.specs.Inputs.{input_files}
use Rattle.input_files.specs.Motion.{speed_of}
use Rattle.input_files.specs.Reading.{NamedSlots}
use Rattle.input_files.specs.declared.inputs.Inputs.{Inputs}
use Rattle.input_files.specs.declared.status.Status.{Status}
use Rattle.input_files.specs.declared.status.Status.TheVariants as status
use Rattle.log_writer.specs.Breaks.{BrokeOff}
use Rattle.log_writer.specs.Kept.{hull_of_last}
use Rattle.log_writer.specs.Pieces.{Piece, piece, pieces_with}
use Rattle.log_writer.specs.Sources.{Source, version_from, Came, IsInHand}
use Rattle.log_writer.specs.Texts.{IsWhole}
use Rattle.log_writer.specs.Writing.{Trust}
use Rattle.log_writer.specs.declared.fault.WriteFault.{WriteFault}
use Rattle.moving_tube.specs.Endings.{before_value}
use Rattle.moving_tube.specs.Tracks.{Left, Stay}
use Rattle.paving_log.specs.CoverBoxes.{cover_of}
use Rattle.paving_log_check.specs.Admissible.{Admits}
use Rattle.paving_log_check.specs.FileCover.{FileCover}
use Rattle.paving_log_check.specs.OwnLines.{OwnLines, AreOwn}
use Rattle.sat_model.specs.Logs.{Block, LogValue, is_few}
use Rattle.tube_searches.specs.Found.{BeginsPiece, IsPath, PathFits, IsFoundIn}
use Rattle.tube_searches.specs.Tubes.{TubeValue, tube_searches}
use Rattle.cover_run.specs.Chosen.{chosen_in}
use Rattle.cover_run.specs.Solving.{IsRootOf, epoch_source, epochs_of, meaning_of, most_of}
use Rattle.cover_run.specs.Telling.{Sinks, TellsLine}
use Rattle.cover_run.specs.Worlds.{World}
use Rattle.cover_run.specs.Writing.{Answer, Writes}

-- ---- a receiver that is lost

abbrev pub lost_line : ℕ → List ℕ
lost_line index = codes "lost " ++ decimal index ++ codes "\n"

-- it is, in an epoch that was searched and has no in or edge box; not in one of few satellites
abbrev pub lost_with : Bool → List GridBox → ℕ → List ℕ
lost_with true parts index = []
lost_with false [] index = lost_line index
lost_with false (part ∷ more) index = []

abbrev pub lost_in : Block → List ℕ
lost_in block = lost_with (is_few block) (cover_of block.body) block.index

-- what is said of the last of these blocks
abbrev pub lost_behind : List ℕ → List Block → List ℕ
lost_behind line [] = line
lost_behind line (block ∷ more) = lost_behind (lost_in block) more

abbrev pub lost_text : List Block → List ℕ
lost_text blocks = lost_behind [] blocks

-- that line, which comes where no block is in hand any more
abbrev pub lost_pieces : (hand : Option Block) → List Block → List Piece
lost_pieces None blocks = piece [] (lost_text blocks) ∷ []
lost_pieces (Some block) blocks = []

-- of a log that was written to its end it is told, where the receiver is lost
abbrev pub TellsLost : Option ℕ → (before after : Sinks) → Type 0 → Status → Type 0
TellsLost None before after reliable s = (s ≡ status.Done) × (after ≡ before)
TellsLost (Some index) before after reliable s =
    TellsLine status.Done (lost_line index) before after reliable s

-- ---- the text of a track

-- A log and its report, to which the line of a receiver that is lost belongs; or what a fault left
-- of them. The source stood first here, and then there.
module _ (source : Source EpochsLeft) (i : Inputs) (first last : EpochsLeft) where
  pub record IsWholeTrack (limit : ℕ) (bytes said : List ℕ) : Type 0 where
    pub report : List ℕ
    pub whole : IsWhole source i.settings.rules first last limit bytes report
    pub all : said ≡ report ++ lost_text whole.log.blocks

  pub record IsBegunTrack (fault : WriteFault) (limit : ℕ) (bytes said : List ℕ) : Type 0 where
    pub blocks : List Block
    pub behind : EpochsLeft
    pub came : Came source i.settings.rules first None blocks behind
    pub hand : Option Block
    pub in_hand : IsInHand source i.settings.rules behind (hull_of_last None blocks) hand
    pub broke : BrokeOff limit (pieces_with (record {
      version = version_from source i.settings.rules first;
      rules = i.settings.rules;
      blocks = blocks;
    }) hand ++ lost_pieces hand blocks) fault bytes said

  abbrev pub IsTrackText : ℕ → Answer → (bytes said : List ℕ) → Type 0
  IsTrackText limit (Ok done) = IsWholeTrack limit
  IsTrackText limit (Err fault) = IsBegunTrack fault limit

-- ---- the track of the files

-- the search box of the settings, and the greatest speed that they declare
pub record IsTubeOf (i : Inputs) (root : GridBox) (fastest : ℕ) : Type 0 where
  pub search : IsRootOf i root
  pub speed : speed_of i.settings ≡ Some fastest

-- the chosen epochs, the first in the search box, or behind what an earlier log leaves; it begins
-- anew where the settings say so
abbrev pub tube_of : Selection → Inputs → GridBox → ℕ → TubeValue
tube_of chosen i search speed = record {
  epochs = epochs_of chosen i;
  search = search;
  speed = speed;
  restart = i.settings.restart;
  before = before_value i.after;
}

-- before the first of them; each later one is searched in the root that the one before leaves
abbrev pub moving : Selection → Inputs → GridBox → ℕ → EpochsLeft
moving chosen i search speed =
    left_in (epochs_of chosen i) (λ blocks. tube_searches (tube_of chosen i search speed) blocks)

module _ (chosen : Selection) (i : Inputs) where
  -- By these searches of a log each trajectory of the declared speed over the first epochs of a
  -- piece of the track, however many, that fits in each paved one of them is found in each of them.
  -- That of the first piece comes from what an earlier log leaves, where it leaves anything.
  abbrev pub FindsReceiver : GridBox → ℕ → LogValue → List Search → Type 0
  FindsReceiver search speed log searches =
      (k : ℕ) (left : Option Left) (path : List Stay)
      → BeginsPiece (before_value i.after) left log.blocks k
      → IsPath speed search left (drop k (epochs_of chosen i)) path
      → PathFits (meaning_of i) i.settings.rules.outliers (drop k searches) (drop k log.blocks) path
      → IsFoundIn (drop k searches) (drop k log.blocks) path

  -- The text of one log and its report, within the limit: each epoch's block has own lines, with
  -- the room that `solve` gives them, over the root that the one before leaves; behind an epoch in
  -- which the receiver is lost it ends, or begins anew. All own lines over these roots admit it, what
  -- fits is covered, and nothing clear is left; and each trajectory that fits is found.
  pub record IsTracked (limit : ℕ) (bytes said : List ℕ) : Type 0 where
    pub search : GridBox
    pub speed : ℕ
    pub is_tube : IsTubeOf i search speed
    pub last : EpochsLeft
    pub track : IsWholeTrack (epoch_source i) i (moving chosen i search speed) last limit bytes said
    pub admits : (owns : List OwnLines)
        → AreOwn (meaning_of i)
        (tube_searches (tube_of chosen i search speed) track.whole.log.blocks)
        track.whole.log.blocks owns
        → Admits i.settings.delays
        (tube_searches (tube_of chosen i search speed) track.whole.log.blocks) owns
        i.settings.rules track.whole.log
    pub cover : FileCover (meaning_of i) i.settings.rules.outliers
        (tube_searches (tube_of chosen i search speed) track.whole.log.blocks) track.whole.log
    pub nothing_clear : LogLeavesNothingClear (meaning_of i) i.settings.renew i.settings.directions
        i.settings.rules (tube_searches (tube_of chosen i search speed) track.whole.log.blocks)
        track.whole.log.blocks
    pub found : FindsReceiver search speed track.whole.log
        (tube_searches (tube_of chosen i search speed) track.whole.log.blocks)

  -- what this fault left of both; its blocks, with the one in hand, leave nothing clear either
  pub record IsTrackedTo (fault : WriteFault) (limit : ℕ) (bytes said : List ℕ) : Type 0 where
    pub search : GridBox
    pub speed : ℕ
    pub is_tube : IsTubeOf i search speed
    pub last : EpochsLeft
    pub begun : IsBegunTrack (epoch_source i) i (moving chosen i search speed) last fault limit
        bytes said
    pub nothing_clear : BlocksLeaveNothingClear (meaning_of i) i.settings.renew
        i.settings.directions i.settings.rules
        (tube_searches (tube_of chosen i search speed) begun.blocks) begun.blocks begun.hand

  -- by how the writing ended
  abbrev pub IsTrack : ℕ → Answer → (bytes said : List ℕ) → Type 0
  IsTrack limit (Ok done) = IsTracked limit
  IsTrack limit (Err fault) = IsTrackedTo fault limit

-- The log of the track was written, and its report printed, or it couldn't be created.
module _ (limit : ℕ) (log : List ℕ) (chosen : Selection) (i : Inputs) (before after : World)
    (trust : Trust) where
  -- behind the reading of files
  abbrev pub TracksBehind : NamedSlots → Status → Type 0
  TracksBehind reads = Writes log before after trust reads limit
      (most_of chosen i)
      (IsTrack chosen i limit)

  abbrev pub Track : Status → Type 0
  Track = TracksBehind []

-- the same behind the reading of the files of these names, and of the log and the epochs with them
abbrev pub Tracks : ℕ → Files → Inputs → World → World → Trust → Status → Type 0
Tracks limit names i before after trust =
    TracksBehind limit names.log (chosen_in names) i before after trust (input_files names)
