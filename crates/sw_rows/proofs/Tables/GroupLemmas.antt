-- Records of which a group is read, and then those behind it.
use Rattle.std.proofs.Common.{◌≡◌, ◌∙◌, ap, sym, subst, ℕ, List, ◌++◌, Result, Ok}
use Rattle.std.proofs.lemmas.Grind.{flat_map-append}
use Rattle.sw_query.specs.declared.refusal.Refusal.{Refusal}
use Rattle.sw_rows.specs.Domains.{Domain, under}
use Rattle.sw_rows.specs.Gives.{Fails}
use Rattle.sw_rows.specs.Header.{Fault}
use Rattle.sw_rows.specs.Tables.{◌>>=◌, rows_after, text_fields, texts_in}
use Rattle.sw_rows.specs.Texts.{with_texts}
use Rattle.sw_table.specs.declared.row.Row.{Row}
use Rattle.sw_rows.proofs.Loads.PartLaws.{rows_append}
use Rattle.sw_rows.proofs.Options.{fails_then}
use Rattle.sw_rows.proofs.Schemas.TextLaws.{with_more}
use Rattle.sw_rows.proofs.Tables.TableLemmas.{seen_all}

abbrev Records : Type 0
Records = List (List (List ℕ))

abbrev Texts : Type 0
Texts = List (List ℕ)

-- the texts of records are those of a group and then of the others
texts_both : (ds : List Domain) (group rest : Records) (ts start : Texts) (all : Records) → with_texts ts (texts_in ds (group ++ rest)) ≡ with_texts start (texts_in ds all) → with_texts ts (texts_in ds group ++ texts_in ds rest) ≡ with_texts start (texts_in ds all)
texts_both ds group rest ts start all own = ap (with_texts ts) (sym (flat_map-append (text_fields ds) group rest)) ∙ own

-- the texts behind those of a group
pub texts_behind : (ds : List Domain) (group rest : Records) (ts start : Texts) (all : Records) → with_texts ts (texts_in ds (group ++ rest)) ≡ with_texts start (texts_in ds all) → with_texts (with_texts ts (texts_in ds group)) (texts_in ds rest) ≡ with_texts start (texts_in ds all)
texts_behind ds group rest ts start all own = sym (with_more ts (texts_in ds group) (texts_in ds rest)) ∙ texts_both ds group rest ts start all own

-- what is told of a group's rows over the texts so far holds over all that are seen
pub group_over : (ds : List Domain) (group rest : Records) (ts start : Texts) (all : Records) (more : Texts) (done : List Row) (P : Result (List Row) Fault → Type 0) → with_texts ts (texts_in ds (group ++ rest)) ≡ with_texts start (texts_in ds all)
    → P (rows_after (under (with_texts ts (texts_in ds group ++ (texts_in ds rest ++ more))) ds) done group) → P (rows_after (under (with_texts start (texts_in ds all ++ more)) ds) done group)
group_over ds group rest ts start all more done P own p =
    subst (λ us. P (rows_after (under us ds) done group)) (seen_all start ts (texts_in ds group) (texts_in ds rest) (texts_in ds all) more (texts_both ds group rest ts start all own)) p

-- the rows behind those of a group
pub group_read : (ks : List Domain) (group rest : Records) (done rows : List Row) → rows_after ks done group ≡ Ok rows → rows_after ks done (group ++ rest) ≡ rows_after ks rows rest
group_read ks group rest done rows read = rows_append ks group rest done ∙ ap (λ o. o >>= λ d. rows_after ks d rest) read

-- a fault in a group ends the reading with it
pub group_fails : (ks : List Domain) (group rest : Records) (done : List Row) (e : Refusal) → Fails ⊥ e (rows_after ks done group) → Fails ⊥ e (rows_after ks done (group ++ rest))
group_fails ks group rest done e fails = rw (rows_append ks group rest done) (fails_then (λ d. rows_after ks d rest) e (rows_after ks done group) fails)
