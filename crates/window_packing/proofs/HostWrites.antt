-- Writes of words in a row.
use Rattle.std.{proofs.{Common.{arith, ◌≡◌, ℕ, ◌≤◌, List, [], ◌∷◌, ◌++◌, length, drop, Option, refl, ap}, lemmas.List.drop_all}, specs.Prelude.flat_map}
use Rattle.bars.specs.{declared.region.BarWithBase.BarWithBase, Slots.bases_from}
use Rattle.model_board.specs.{State.BoardFunction, Cycles.BusAddress}
use Rattle.host_bridge.specs.HostState.{HostState}
use Rattle.window_packing.specs.WordWrites.{WordWrite, after_word, after_words, base_words, host_after}

pub words_joined : (at : BusAddress) (vs ws : List WordWrite) (fs : List BoardFunction) → after_words at (vs ++ ws) fs ≡ after_words at ws (after_words at vs fs)
words_joined at [] ws fs = refl
words_joined at (v ∷ vs) ws fs = words_joined at vs ws (after_word at v fs)

-- one more word after those that were written
pub last_word : (at : BusAddress) (w : WordWrite) (vs : List WordWrite) (h before after : HostState)
    → host_after before.state.functions before ≡ host_after (after_words at vs h.state.functions) h
    → after ≡ host_after (after_word at w before.state.functions) before
    → after ≡ host_after (after_words at (vs ++ w ∷ []) h.state.functions) h
last_word at w vs h before after e f = grind (arith, words_joined)

-- no slot is left at the end
pub none_left : (n : ℕ) (slots : List (Option BarWithBase)) → length slots ≤ n → flat_map base_words (bases_from n (drop n slots)) ≡ []
none_left n slots h = ap (λ xs. flat_map base_words (bases_from n xs)) (drop_all n slots h)
