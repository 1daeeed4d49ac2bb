-- The machine value of a token, and what owns nothing but it. Assumes `Logic`.
use Rattle.std.proofs.Common.{◌≡◌, List, [], ◌∷◌, ◌++◌, refl, ap, ◌∙◌}
use seplogic.Ra.Ura.{Ura}
use mir.Val.{Val, vstruct, vcons, vnil, of_list}
use base.Logic.{ent, emp}
use base.Fml.{Fml}
use types.Logic.{Logic, sem}
use denote.RattleType.{RattleType}
use denote.Laws.{Is}
use denote.Shadow.{makes_shadow}
use denote.Struct.Struct.{Struct}
use denote.Struct.Owning.{shape}
use Rattle.sw_tie.specs.contracts.Book as book
use Rattle.sw_tie.specs.contracts.Share as share

-- what a machine has of a token: one field, which is empty
abbrev pub token : Val
token = vstruct (vcons (vstruct vnil) vnil)

-- a value of a share's shape is just that one
pub told : (R : RattleType) (vs : List Val) → Is (Struct (shape (share.the_type R))) (tt, tt) vs → vs ≡ token ∷ []
told R vs is = is.1.0 ∙ ap (λ (ws : List Val). vstruct (of_list (ws ++ [])) ∷ []) is.1.1.0.1.0

module _ {M : Type 1} {𝓤 : Ura M} (𝓛 : Logic 𝓤) (R : RattleType) where
  -- what a book owns beside its chain: that value
  abbrev pub BookData : Fml
  BookData = (Struct (shape (book.the_type R))).own_val (tt, tt) (token ∷ [])

  -- it is made of nothing
  pub book_made : ent 𝓤 (emp 𝓤) (sem 𝓛 BookData)
  book_made = makes_shadow 𝓛 BookData (λ vss. (tt, ((λ uss. (tt, tt)), tt))) ((vstruct vnil ∷ [], tt), (refl, ((tt, (refl, tt)), tt)))

  -- what a share owns beside its row: that value
  abbrev pub ShareData : Fml
  ShareData = (Struct (shape (share.the_type R))).own_val (tt, tt) (token ∷ [])

  -- it is made of nothing too
  pub share_made : ent 𝓤 (emp 𝓤) (sem 𝓛 ShareData)
  share_made = makes_shadow 𝓛 ShareData (λ vss. (tt, ((λ uss. (tt, tt)), tt))) ((vstruct vnil ∷ [], tt), (refl, ((tt, (refl, tt)), tt)))
