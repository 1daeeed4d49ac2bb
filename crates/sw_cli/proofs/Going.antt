-- What goes out of a text through a block of bytes, and what a run leaves of it.
use Rattle.std.proofs.Common.{◌≡◌, ◌∙◌, sym, ap, subst, refl, ℕ, zero, suc, List, [], ◌++◌, append_assoc, drop, true, Option, IfOk, Result, Ok, Err}
use Rattle.std.proofs.lemmas.List.{append-nil}
use Rattle.std.specs.Io.KnownBytes.{Keeps, append_known}
use Rattle.sw_rows.specs.Gives.{Raised}
use Rattle.sw_rows.specs.Header.{Column}
use Rattle.sw_query.specs.declared.query.Call.{Call}
use Rattle.sw_query.specs.declared.refusal.Refusal.{Refusal}
use Rattle.sw_query.specs.declared.refusal.Refusal.TheVariants as refusal
use Rattle.sw_lang.specs.Sinks.{Took, TookBeginning, Writes}
use Rattle.sw_spine.specs.History.{History}
use Rattle.sw_cli.specs.Outcomes.{AllSayWhy, AreTold, Told, blocks_told, text_of}
use Rattle.sw_cli.specs.Run.{IsRecordOf, Start}
use Rattle.sw_table.specs.declared.row.Row.{Row}
use Rattle.sw_cli.specs.Flowing.{Turns, PutsOut}
use Rattle.sw_cli.specs.Sent.{GoesOut, extends, with_waiting}
use Rattle.sw_cli.specs.Served.{Served}
use Rattle.sw_cli.specs.Sides.{SinkSeen}
use Rattle.sw_cli.specs.Starts.{Goes}
use Rattle.sw_cli.proofs.Outcomes.{blocks_calls}
use Rattle.sw_cli.proofs.Waiting.{all_sent, begins_alone, from_start, kept_on}

drop_nil : (n : ℕ) → drop {A = ℕ} n [] ≡ []
drop_nil zero = refl
drop_nil (suc n) = refl

-- an empty block
pub keeps_empty : (one two : Option (List ℕ)) (sent : ℕ) (items : List ℕ) → Keeps one (append_known two (drop sent items)) → items ≡ [] → Keeps one (append_known two [])
keeps_empty one two sent items h e =
    let empty : drop sent items ≡ [] = ap (λ (xs : List ℕ). drop sent xs) e ∙ drop_nil sent in
    subst (λ (w : List ℕ). Keeps one (append_known two w)) empty h

-- all was written and sent
pub sent_whole : (u v : Unit {0}) (t one two : Option (List ℕ)) (f g k : ℕ) (text : List ℕ) → Writes (append_known t []) one f g (Ok u) text → Keeps one (append_known two []) → k ≡ g → Writes t two f k (Ok v) text
sent_whole u v t one two f g k text w kept ek = record {
  whole = (all_sent t two text (kept_on t one (append_known two []) text (from_start t one (append_known t []) text refl w.whole.0) kept), ek ∙ w.whole.1);
  part = tt;
}

-- all was written and a part was sent
pub sent_part : (u : Unit {0}) (t one two : Option (List ℕ)) (waiting : List ℕ) (f g k : ℕ) (text : List ℕ) → Writes (append_known t []) one f g (Ok u) text → extends t two ≡ true → Keeps one (append_known two waiting) → Raised g k → Writes t two f k (Err refusal.Output) text
sent_part u t one two waiting f g k text w after kept raised = record {
  whole = tt;
  part = (
    refl,
    begins_alone t two waiting text after (text, [], sym (append-nil text), kept_on t one (append_known two waiting) text (from_start t one (append_known t []) text refl w.whole.0) kept),
    subst (λ (n : ℕ). Raised n k) w.whole.1 raised,
  );
}

-- a part was written
pub sent_beginning : (e : Refusal) (t two : Option (List ℕ)) (waiting : List ℕ) (f g : ℕ) (text : List ℕ) → Writes (append_known t []) (append_known two waiting) f g (Err e) text → extends t two ≡ true → Writes t two f g (Err e) text
sent_beginning e t two waiting f g text w after =
    let b = w.part.1 in
    record {
      whole = tt;
      part = (w.part.0, begins_alone t two waiting text after (b.0, b.1, b.2, from_start t (append_known two waiting) (append_known t []) b.0 refl b.3), w.part.2);
    }

-- what a block let out, from what its sink had taken before it
pub goes_out : (base t begun : Option (List ℕ)) (f g : ℕ) (sent : ℕ) (block : List ℕ) (w : SinkSeen) (written result : Result (Unit {0}) Refusal) (text : List ℕ) → GoesOut base sent block w written result → base ≡ t → begun ≡ append_known t [] → g ≡ f
    → Writes begun (with_waiting w.taken_before sent block) g w.failed_before written text → Writes t w.taken_after f w.failed_after result text
goes_out base t begun f g sent block w written result text out eb is ef wrote =
    let from_base : Writes (append_known base []) (with_waiting w.taken_before sent block) f w.failed_before written text =
    subst (λ (n : ℕ). Writes (append_known base []) (with_waiting w.taken_before sent block) n w.failed_before written text) ef
    (subst (λ (o : Option (List ℕ)). Writes o (with_waiting w.taken_before sent block) g w.failed_before written text) (is ∙ ap (λ (o : Option (List ℕ)). append_known o []) (sym eb)) wrote) in
    subst (λ (o : Option (List ℕ)). Writes o w.taken_after f w.failed_after result text) eb (out f text from_base)

-- the same with an answer
pub served_ok : {A : Type 0} (x : A) (u : Unit {0}) (old new : Option (List ℕ)) (f g : ℕ) (text : List ℕ) → Writes old new f g (Ok u) text → Served old new f g (Ok x) text
served_ok x u old new f g text w = record { whole = w.whole; part = tt }

-- the same with a refusal
pub served_err : {A : Type 0} (e : Refusal) (old new : Option (List ℕ)) (f g : ℕ) (text : List ℕ) → Writes old new f g (Err e) text → Served {A = A} old new f g (Err e) text
served_err e old new f g text w = record { whole = tt; part = w.part }

-- a beginning of a text is one of a longer text
pub writes_less : (old new : Option (List ℕ)) (f g : ℕ) (e : Refusal) (text more whole : List ℕ) → whole ≡ text ++ more → Writes old new f g (Err e) text → Writes old new f g (Err e) whole
writes_less old new f g e text more whole is w =
    let b = w.part.1 in
    record {
      whole = tt;
      part = (w.part.0, (b.0, b.1 ++ more, is ∙ ap (λ (l : List ℕ). l ++ more) b.2 ∙ append_assoc b.0 b.1 more, b.3), w.part.2);
    }

-- what a run leaves whose lines went out
pub goes : (limit : ℕ) (s : Start) (blocks : List (List Call)) (tells : List (List Told)) (record_was : History) (w : SinkSeen) (result : Result History Refusal)
    → blocks ≡ s.blocks → AreTold blocks tells → AllSayWhy (blocks_told blocks tells) → IsRecordOf s.columns s.rows limit (blocks_told blocks tells) record_was
    → Served w.taken_before w.taken_after w.failed_before w.failed_after result (text_of record_was.columns (blocks_told blocks tells)) → IfOk result (λ h. h ≡ record_was) → Goes limit s w result
goes limit s blocks tells record_was w (Ok h) is all why of served same =
    let told = blocks_told blocks tells in
    let wrote = subst (λ (cs : List Column). Took w.taken_before w.taken_after (text_of cs told)) of.columns_are served.whole.0 in
    ((told, record { calls = blocks_calls blocks tells all ∙ is; why = why; record_is = subst (λ (x : History). IsRecordOf s.columns s.rows limit told x) (sym same) of; wrote = wrote }), served.whole.1)
goes limit s blocks tells record_was w (Err e) is all why of served same =
    let told = blocks_told blocks tells in
    let p = served.part in
    let wrote = subst (λ (cs : List Column). TookBeginning w.taken_before w.taken_after (text_of cs told)) of.columns_are p.1 in
    subst (λ (d : Refusal). Goes limit s w (Err d)) (sym p.0) (record { told = told; history = record_was; calls = blocks_calls blocks tells all ∙ is; why = why; record_is = of; wrote = wrote }, p.2)

-- ---- what a run leaves whose lines went out as its calls were answered

module _ (limit : ℕ) (s : Start) (told : List (List Told)) (record_is : History) (w : SinkSeen) where
  -- of all calls
  pub flown_ok : (u : Unit {0}) → AreTold s.blocks told → AllSayWhy (blocks_told s.blocks told) → IsRecordOf s.columns s.rows limit (blocks_told s.blocks told) record_is → PutsOut w (Ok u) (text_of s.columns (blocks_told s.blocks told)) → Goes limit s w (Ok record_is)
  flown_ok u all why of out =
      goes limit s s.blocks told record_is w (Ok record_is) refl all why of
      (subst (λ (cs : List Column). Served w.taken_before w.taken_after w.failed_before w.failed_after (Ok record_is) (text_of cs (blocks_told s.blocks told))) (sym of.columns_are) (served_ok record_is u _ _ _ _ _ out)) refl

  -- until the sink failed
  pub flown_err : (e : Refusal) → AreTold s.blocks told → AllSayWhy (blocks_told s.blocks told) → IsRecordOf s.columns s.rows limit (blocks_told s.blocks told) record_is → PutsOut w (Err e) (text_of s.columns (blocks_told s.blocks told)) → Goes limit s w (Err e)
  flown_err e all why of out =
      goes limit s s.blocks told record_is w (Err e) refl all why of
      (subst (λ (cs : List Column). Served {A = History} w.taken_before w.taken_after w.failed_before w.failed_after (Err e) (text_of cs (blocks_told s.blocks told))) (sym of.columns_are) (served_err e _ _ _ _ _ out)) tt

-- whatever the cuts are
pub goes_over : (s : Start) (columns : List Column) (rows : List Row) (blocks : List (List Call)) (limit : ℕ) (w : SinkSeen) (result : Result History Refusal) → Turns columns rows blocks limit w result → columns ≡ s.columns → rows ≡ s.rows → blocks ≡ s.blocks → Goes limit s w result
goes_over s columns rows blocks limit w result over ec er eb =
    subst (λ (cs : List Column). Goes limit (record { columns = cs; rows = s.rows; blocks = s.blocks; cuts = s.cuts }) w result) ec
    (subst (λ (rs : List Row). Goes limit (record { columns = columns; rows = rs; blocks = s.blocks; cuts = s.cuts }) w result) er
    (subst (λ (bs : List (List Call)). Goes limit (record { columns = columns; rows = rows; blocks = bs; cuts = s.cuts }) w result) eb (over s.cuts)))
