-- What is answered by a head at rest, and where it stands.
use Rattle.std.proofs.Common.{◌≡◌, ◌++◌, ℕ, Bool, true, false, List, [], sym, ap, ◌∙◌, subst}
use Rattle.std.specs.Prelude.{OnErr, OnOk, Result, Ok, Err}
use mathlib.Core.List.{IsPrefix}
use Rattle.std.proofs.lemmas.List.{append-nil}
use Rattle.sw_table.specs.Updates.{rows_of}
use Rattle.sw_table.specs.declared.row.Row.{Row}
use Rattle.sw_table.specs.declared.row.Update.{Update}
use Rattle.sw_rows.specs.Header.{Column}
use Rattle.sw_query.specs.Scan.{answer}
use Rattle.sw_query.specs.declared.query.Call.{Call}
use Rattle.sw_query.specs.declared.query.Call.TheVariants.{Select}
use Rattle.sw_query.specs.declared.query.Query.{Query}
use Rattle.sw_query.specs.declared.reply.Reply.{Reply}
use Rattle.sw_spine.specs.Table.{opened, reply_to}
use Rattle.sw_spine.specs.History.{updates_after}
use Rattle.sw_spine.specs.Books.{Books, reply_now, updates, with_answered}
use Rattle.sw_spine.specs.declared.history.Entry.{Entry}
use Rattle.sw_engine.specs.Desk.{IsOf}
use Rattle.sw_engine.specs.Published.{IsShelfOf, answer_after, reply_after}
use Rattle.sw_engine.proofs.Shelves.{shelf_answered}
use Rattle.sw_versions.specs.Known.{Shelved}
use Rattle.sw_versions.specs.Lists.{BeginsOr}
use Rattle.sw_versions.specs.Rules.{updates_in}
use Rattle.sw_versions.proofs.Batches.{all_begins}
use Rattle.sw_versions.proofs.Prefixes.{prefix_trans}

-- all updates of the books
pub all_updates : (columns : List Column) (opening : List Row) (limit : ℕ) (b : Books) → IsOf columns opening limit b → updates b ≡ updates_after limit (opened opening) b.entries
all_updates columns opening limit b of = (λ i. updates_after (of.limit_is i) (opened (of.rows_are i)) b.entries)

-- what the table replies after all entries, it replies now
pub reply_is : (columns : List Column) (opening : List Row) (limit : ℕ) (b : Books) (c : Call) (r : Reply) → IsOf columns opening limit b → r ≡ reply_after limit opening b.entries c → r ≡ reply_now c b
reply_is columns opening limit b c r of is = is ∙ sym (λ i. reply_to (of.limit_is i) (updates_after (of.limit_is i) (opened (of.rows_are i)) b.entries) c)

-- a head that has received all that was taken for it answers over what its receipt has
pub answered_over : (limit : ℕ) (opening : List Row) (had inbox took list : List Update) (q : Query) (r : Reply) → inbox ≡ [] → had ++ inbox ≡ took → took ≡ opened opening ++ list → r ≡ answer (rows_of had) q → r ≡ answer_after limit opening list q
answered_over limit opening had inbox took list q r none taken all is = is ∙ ap (λ (us : List Update). answer (rows_of us) q) (sym (append-nil had) ∙ (ap (λ (us : List Update). had ++ us) (sym none) ∙ (taken ∙ all)))

-- a receipt that begins what is published begins the updates
pub receipt_begins : (r p : List (List Update)) (us : List Update) (x : Bool) → BeginsOr x r p → x ≡ true → IsPrefix (updates_in p) us → IsPrefix (updates_in r) us
receipt_begins r p us true begins is shown = prefix_trans (updates_in r) (updates_in p) us (all_begins r p begins) shown
receipt_begins r p us false begins is shown = absurd cc

-- what is answered over all updates is the table's reply after all entries
pub reply_over : (limit : ℕ) (opening : List Row) (es : List Entry) (list later : List Update) (q : Query) (r : Reply) → list ≡ later → opened opening ++ later ≡ updates_after limit (opened opening) es → r ≡ answer_after limit opening list q → r ≡ reply_after limit opening es (Select q)
reply_over limit opening es list later q r same all is = is ∙ (ap (λ (l : List Update). reply_to limit (opened opening ++ l) (Select q)) same ∙ ap (λ (us : List Update). reply_to limit us (Select q)) all)

-- a select that stands answered, or was refused, leaves what the shelf has
pub shelf_told : {A E : Type 0} (told : Result A E) (limit : ℕ) (opening : List Row) (session : ℕ) (q : Query) (b x : Books) (s : Shelved) → IsShelfOf limit opening b s → OnOk told (x ≡ with_answered session (Select q) b) → OnErr told (x ≡ b) → updates x ≡ updates b → IsShelfOf limit opening x s
shelf_told (Ok a) limit opening session q b x s is ok err same = shelf_answered limit opening session (Select q) b x s [] is ok (same ∙ sym (append-nil (updates b)))
shelf_told (Err e) limit opening session q b x s is ok err same = subst (λ (y : Books). IsShelfOf limit opening y s) (sym err) is
