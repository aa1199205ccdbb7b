use Rattle.std.proofs.Common.{◌≡◌, ℕ, List, ◌∷◌, ◌++◌, append_assoc}
use Rattle.log_lines.proofs.write.push_box.Goals as goal

-- three words behind three
six_words : (start one two a b c d e f : List ℕ) → one ≡ start ++ 32 ∷ (a ++ 32 ∷ (b ++ 32 ∷ c))
    → two ≡ one ++ 32 ∷ (d ++ 32 ∷ (e ++ 32 ∷ f))
    → two ≡ start ++ 32 ∷ (a ++ 32 ∷ (b ++ 32 ∷ (c ++ 32 ∷ (d ++ 32 ∷ (e ++ 32 ∷ f)))))
six_words start one two a b c d e f p q = rw (q, p) (simp append_assoc)

pub returns-clause-pushed : goal.returns-clause-pushed
returns-clause-pushed c = six_words c.args.line.now.bytes c.push_pos.new.line.bytes c.push_pos-2.new.line.bytes _ _ _ _ _ _ c.push_pos.ensures.pushed c.push_pos-2.ensures.pushed
