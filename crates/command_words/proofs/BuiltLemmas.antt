-- What one more argument and one more subcommand leave of a command, and what lists of them do.
use Rattle.std.proofs.Common.{◌≡◌, ◌+◌, ◌<◌, ◌≤◌, ℕ, Bool, false, ◌||◌, List, length, get_or, take, map, fold, Result, Ok, IfOk, sym, ap, ap₂, subst, ◌∙◌, take_all}
use Rattle.std.proofs.lemmas.List.Sums.{fold_more}
use Rattle.std.proofs.lemmas.List.Folds.{fold-map}
use Rattle.clap.specs.Built.{AddsArg, AddsSubcommand}
use Rattle.clap.specs.Simple.{App, with_rule, with_subcommand}
use Rattle.clap.specs.Walk.{Rule, rule_of}
use Rattle.clap.specs.declared.builder.arg.Arg.{Arg}
use Rattle.clap.specs.declared.builder.command.Command.{Command}
use Rattle.command_words.specs.Program.{with_command}
use Rattle.command_words.specs.Built.{IsCommand}

pub adds_rule : (old new : Command) (a : Arg) (app : App) (rule : Rule) → a.global ≡ false → rule_of a ≡ rule
    → IsCommand old app → AddsArg old a new → IsCommand new (with_rule app rule)
adds_rule old new a app rule here is k adds = record {
  app_is = adds.shape here ∙ ap₂ with_rule k.app_is is;
  local = adds.globals ∙ ap₂ (λ (x y : Bool). x || y) k.local here;
}

pub adds_command : (old sub new : Command) (app below : App) → IsCommand old app → IsCommand sub below
    → AddsSubcommand old sub new → IsCommand new (with_command app below)
adds_command old sub new app below k s adds = record {
  app_is = adds.shape s.local ∙ ap₂ with_subcommand k.app_is (ap (λ (a : App). a.top) s.app_is);
  local = adds.globals ∙ ap₂ (λ (x y : Bool). x || y) k.local s.local;
}

pub of_ok : {X E : Type 0} (P : X → Type 0) (r : Result X E) (x : X) → r ≡ Ok x → IfOk r P → P x
of_ok {X} {E} P r x is k = subst (λ (r : Result X E). IfOk r P) is k

-- ---- a fold over the first i of a list

pub one_more : {A X Y : Type 0} (f : A → Y → A) (h : X → Y) (P : A → Type 0) (a : A) (xs : List X) (i : ℕ) (d : X)
    → i < length xs
    → P (f (fold (λ b x. f b (h x)) a (take i xs)) (h (get_or xs i d)))
    → P (fold (λ b x. f b (h x)) a (take (i + 1) xs))
one_more f h P a xs i d within k = subst P (sym (fold_more (λ b x. f b (h x)) a xs i d within)) k

pub all_taken : {A X Y : Type 0} (f : A → Y → A) (h : X → Y) (P : A → Type 0) (a : A) (xs : List X) (i : ℕ)
    → length xs ≤ i
    → P (fold (λ b x. f b (h x)) a (take i xs)) → P (fold f a (map h xs))
all_taken f h P a xs i whole k = rw fold-map (rw take_all at k)
