-- Attributes that learn the texts of an entry or a row are attributes still.
use Rattle.std.proofs.Common.{◌≡◌, ◌∙◌, ap, sym, refl, ℕ, Bool, true, false, List, [], ◌∷◌, ◌++◌, length, map, codes, if◌then◌else◌, Option, Some, None, option_map}
use Rattle.std.specs.List.{cons_option}
use Rattle.std.specs.Prelude.{filter_map, option_and_then, unwrap_or}
use Rattle.std.specs.List.{list_all}
use Rattle.serde_json.specs.Data.{Data, Items}
use Rattle.serde_json.specs.Find.{as_array, as_str}
use Rattle.sw_rows.specs.Header.{Column, IsSchema}
use Rattle.sw_rows.specs.Texts.{is_text}
use Rattle.sw_lang.specs.Learning.{knowing}
use Rattle.sw_lang.proofs.Known.Knowing.{knowing_schema, learned_width, nothing_more}
use Rattle.serde_json.specs.View.{items_view, view}
use Rattle.serde_json.specs.declared.value.Value.{Value}
use Rattle.sw_histories.proofs.Found.RecordReadingLemmas.{list_items}
use Rattle.sw_histories.specs.RecordReading.{entry_learned, items_list, row_learned, row_texts, text_at, text_in}

abbrev Texts : Type 0
Texts = List (List ℕ)

-- an entry's texts leave as many columns
pub entry_width : (s : List Column) (d : Data) → length (entry_learned s d) ≡ length s
entry_width s d = learned_width s (unwrap_or (text_at (codes "call") d) [])

-- ---- texts of rows

-- a text, if there is one, and others
pub one_more : (o : Option (List ℕ)) (ts : Texts) → cons_option o ts ≡ cons_option o [] ++ ts
one_more None ts = refl
one_more (Some t) ts = refl

found_sound : (o : Option (List ℕ)) (ts : Texts) → list_all is_text ts ≡ true → list_all is_text (cons_option (option_and_then (λ s. if is_text s then Some s else None) o) ts) ≡ true
found_sound None ts h = h
found_sound (Some s) ts h = by_test (is_text s) refl
  where
    by_test : (b : Bool) → is_text s ≡ b → list_all is_text (cons_option (if b then Some s else None) ts) ≡ true
    by_test true e = rw (e, h) refl
    by_test false e = h

-- the texts of a row's items
pub row_texts_found : (d : Data) (vs ws : List Value) → Some (items_view vs) ≡ as_array d → ws ≡ vs → filter_map text_in (map view ws) ≡ row_texts d
row_texts_found d vs ws is same =
    ap (λ l. filter_map text_in (map view l)) same
    ∙ ap (filter_map text_in) (sym (list_items (map view vs)))
    ∙ ap (λ o. unwrap_or (option_map (λ ds. filter_map text_in (items_list ds)) o) []) is

-- what is no list teaches no texts
pub no_row_learned : (s : List Column) (d : Data) → IsSchema s → None ≡ as_array d → s ≡ row_learned s d
no_row_learned s d ok none = sym (ap (λ o. knowing (unwrap_or (option_map (λ ds. filter_map text_in (items_list ds)) o) []) s) (sym none) ∙ nothing_more s ok)

values_sound : (ds : List Data) → list_all is_text (filter_map text_in ds) ≡ true
values_sound [] = refl
values_sound (d ∷ ds) = found_sound (as_str d) (filter_map text_in ds) (values_sound ds)

row_sound : (d : Data) → list_all is_text (row_texts d) ≡ true
row_sound d = by_array (as_array d)
  where
    by_array : (o : Option Items) → list_all is_text (unwrap_or (option_map (λ ds. filter_map text_in (items_list ds)) o) []) ≡ true
    by_array None = refl
    by_array (Some ds) = values_sound (items_list ds)

-- a row's texts leave columns that are sound
pub row_schema : (s : List Column) (d : Data) → IsSchema s → IsSchema (row_learned s d)
row_schema s d ok = knowing_schema s (row_texts d) ok (row_sound d)
