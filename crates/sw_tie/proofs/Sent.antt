-- A book's tokens name no thread's key, so they may go to another thread.
use mathlib.Core.List.{List, [], ◌∷◌}
use mathlib.Core.Bool.{Bool}
use Prim.Native.Nat.{ℕ, zero, suc}
use base.Shift.{Keyless}
use base.Stored.{Gv}
use denote.RattleType.{RattleType}
use denote.Param.Send.{IsSend}
use Rattle.sw_tie.specs.Tied.{chain, row, contents, book_owns, share_owns}
use Rattle.sw_tie.specs.contracts.Book as Book
use Rattle.sw_tie.specs.contracts.Share as Share

chain-Keyless : (xs : List Gv) (γ : ℕ) → Keyless (chain xs γ)
chain-Keyless [] γ = (tt, tt)
chain-Keyless (x ∷ xs) γ = λ c. (tt, (tt, (tt, chain-Keyless xs c.1)))

row_Keyless : (i : ℕ) (x : Gv) (γ : ℕ) → Keyless (row i x γ)
row_Keyless zero x γ = λ c. (tt, tt)
row_Keyless (suc i) x γ = λ c. (tt, row_Keyless i x c.1)

book_keyless : {A : Type 0} (c : A → Gv) (γ : ℕ) (rows : List (A × Bool)) → Keyless (book_owns c γ rows)
unfolding book_owns
book_keyless c γ rows = chain-Keyless (contents c rows) γ

share_keyless : {A : Type 0} (c : A → Gv) (γ i : ℕ) (v : A) → Keyless (share_owns c γ i v)
unfolding share_owns
share_keyless c γ i v = row_Keyless i _ γ

-- what a book owns names no thread, so it may go to another one
pub book_send : (T : RattleType) → IsSend (Book.the_row T)
book_send T = record { owned = λ d vs. ((λ vss. (tt, ((λ uss. (tt, tt)), tt))), book_keyless T.coded.code d.name d.rows); leaving = λ k f vs. tt }

-- so may a share
pub share_send : (T : RattleType) → IsSend (Share.the_row T)
share_send T = record { owned = λ d vs. ((λ vss. (tt, ((λ uss. (tt, tt)), tt))), share_keyless T.coded.code d.name d.number d.value); leaving = λ k f vs. tt }
