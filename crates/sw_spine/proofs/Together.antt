-- Selects that stand answered together.
use Rattle.std.proofs.Common.{◌≡◌, ◌≤◌, ◌+◌, ◌++◌, ℕ, true, [], ◌∷◌, length, map, take, refl, sym, ap, ◌∙◌, subst, arith, append_assoc, append-nil, length-append, All, List}
use Rattle.std.specs.Prelude.{Option, None, slice_index}
use Rattle.std.proofs.lemmas.List.Elements.{All-head, All-tail}
use Rattle.sw_rows.specs.Header.{Column}
use Rattle.sw_table.specs.declared.row.Update.{Update}
use Rattle.sw_query.specs.declared.query.Call.{Call}
use Rattle.sw_query.specs.declared.query.Call.TheVariants as call
use Rattle.sw_query.specs.declared.query.Query.{Query}
use Rattle.sw_query.specs.declared.reply.Reply.{Reply}
use Rattle.sw_spine.specs.Table.{Stored, all_updates, opened, reply_to}
use Rattle.sw_spine.specs.History.{CallsBelow, entry, mine}
use Rattle.sw_spine.specs.Books.{Books, IsSpine, KeepsOthers, KeepsTaken, as_calls, books_of, is_opened, reply_now, told_entry, updates, waits_for, with_all_answered, with_answered}
use Rattle.sw_spine.specs.declared.history.Entry.{Entry}
use Rattle.sw_spine.specs.declared.history.State.TheVariants as state
use Rattle.sw_spine.proofs.Histories.{waiting_push_closed}
use Rattle.sw_spine.proofs.Spines.{answered_mine, answered_others, answered_rest, kept_told, told_updates}

-- of none, nothing changes
none_answered : (session : ℕ) (b : Books) → with_all_answered session [] b ≡ b
none_answered session b = ap (λ es. record b { entries = es }) (append-nil b.entries)

-- the first stands answered by the table, and the others behind it
first_answered : (session : ℕ) (t : Query × Reply) (told : List (Query × Reply)) (b : Books) → t.1 ≡ reply_now (call.Select t.0) b
    → with_all_answered session (t ∷ told) b ≡ with_all_answered session told (with_answered session (call.Select t.0) b)
first_answered session t told b is =
    let later = map (told_entry session) told in
    ap (λ es. record b { entries = es }) (ap (λ r. b.entries ++ entry session (call.Select t.0) (state.Answered r) ∷ later) is
    ∙ sym (append_assoc b.entries (entry session (call.Select t.0) (state.Answered (reply_now (call.Select t.0) b)) ∷ []) later))

-- behind it the table replies the same to the others
replies_later : (session : ℕ) (q : Query) (told : List (Query × Reply)) (b : Books) → All (λ t. t.1 ≡ reply_now (call.Select t.0) b) told
    → All (λ t. t.1 ≡ reply_now (call.Select t.0) (with_answered session (call.Select q) b)) told
replies_later session q told b all =
    subst (λ (us : List Update). All (λ t. t.1 ≡ reply_to b.limit us (call.Select t.0)) told) (sym (told_updates session q b)) all

-- what stays where a select is answered, and over two changes, stays where several are
pub stays_for_all : (R : Books → Books → Type 0) → ((b : Books) → R b b) → ((a b c : Books) → R a b → R b c → R a c) → (session : ℕ) → ((q : Query) (b : Books) → R b (with_answered session (call.Select q) b))
    → (told : List (Query × Reply)) (b : Books) → All (λ t. t.1 ≡ reply_now (call.Select t.0) b) told → R b (with_all_answered session told b)
stays_for_all R same both session one [] b all = subst (R b) (sym (none_answered session b)) (same b)
stays_for_all R same both session one (t ∷ told) b all =
    let c = with_answered session (call.Select t.0) b in
    let is = All-head (λ u. u.1 ≡ reply_now (call.Select u.0) b) t told all in
    let later = replies_later session t.0 told b (All-tail (λ u. u.1 ≡ reply_now (call.Select u.0) b) t told all) in
    subst (R b) (sym (first_answered session t told b is))
    (both b c (with_all_answered session told c) (one t.0 b) (stays_for_all R same both session one told c later))

-- they bring no update
pub all_told_updates : (session : ℕ) (told : List (Query × Reply)) (b : Books) → All (λ t. t.1 ≡ reply_now (call.Select t.0) b) told → updates (with_all_answered session told b) ≡ updates b
all_told_updates session told b all = stays_for_all (λ a c. updates c ≡ updates a) (λ a. refl) (λ a c d first then. then ∙ first) session (λ q a. told_updates session q a) told b all

-- their session waits for nothing
pub all_told_rest : (session : ℕ) (told : List (Query × Reply)) (b : Books) → All (λ t. t.1 ≡ reply_now (call.Select t.0) b) told → waits_for session b ≡ None → waits_for session (with_all_answered session told b) ≡ None
all_told_rest session told b all =
    stays_for_all (λ a c. waits_for session a ≡ None → waits_for session c ≡ None) (λ a none. none) (λ a c d first then none. then (first none)) session (λ q a. answered_rest session (call.Select q) a) told b all

-- other sessions keep what they have
pub all_told_others : (session : ℕ) (told : List (Query × Reply)) (b : Books) → All (λ t. t.1 ≡ reply_now (call.Select t.0) b) told → KeepsOthers session b (with_all_answered session told b)
all_told_others session told b all = stays_for_all (KeepsOthers session)
    (λ a. record { mine = λ s apart. refl; waits = λ s apart. refl })
    (λ a c d first then. record { mine = λ s apart. then.mine s apart ∙ first.mine s apart; waits = λ s apart. then.waits s apart ∙ first.waits s apart })
    session (λ q a. answered_others session (call.Select q) a) told b all

-- heads keep what they took
pub all_told_took : (session : ℕ) (told : List (Query × Reply)) (b : Books) → All (λ t. t.1 ≡ reply_now (call.Select t.0) b) told → KeepsTaken b (with_all_answered session told b)
all_told_took session told b all head less = ap (λ (us : List Update). take (slice_index b.taken head) us) (all_told_updates session told b all)

-- and the session has as many answered calls more
pub all_told_mine : (session : ℕ) (told : List (Query × Reply)) (b : Books) → All (λ t. t.1 ≡ reply_now (call.Select t.0) b) told → mine session (with_all_answered session told b).entries ≡ mine session b.entries ++ as_calls told
all_told_mine session [] b all = ap (mine session) (append-nil b.entries) ∙ sym (append-nil (mine session b.entries))
all_told_mine session (t ∷ told) b all =
    let c = with_answered session (call.Select t.0) b in
    let is = All-head (λ u. u.1 ≡ reply_now (call.Select u.0) b) t told all in
    let later = replies_later session t.0 told b (All-tail (λ u. u.1 ≡ reply_now (call.Select u.0) b) t told all) in
    ap (λ (x : Books). mine session x.entries) (first_answered session t told b is)
    ∙ all_told_mine session told c later
    ∙ ap (λ (l : List (Call × Reply)). l ++ as_calls told) (answered_mine session (call.Select t.0) b ∙ ap (λ r. mine session b.entries ++ (call.Select t.0, r) ∷ []) (sym is))
    ∙ append_assoc (mine session b.entries) ((call.Select t.0, t.1) ∷ []) (as_calls told)

-- a spine stays one with answered selects
pub kept_all_told : (columns : List Column) (s : Stored) (taken : List ℕ) (sessions published : ℕ) (places : List (Option ℕ)) (session : ℕ) (told : List (Query × Reply)) (es : List Entry)
    → IsSpine (books_of columns s es taken sessions published) s.later places → is_opened session (books_of columns s es taken sessions published) ≡ true
    → waits_for session (books_of columns s es taken sessions published) ≡ None → All (λ t. CallsBelow (length columns) (call.Select t.0)) told
    → All (λ t. t.1 ≡ reply_to s.limit (all_updates s) (call.Select t.0)) told → length es + length told ≤ 1048576
    → IsSpine (books_of columns s (es ++ map (told_entry session) told) taken sessions published) s.later places
kept_all_told columns s taken sessions published places session [] es k is none below replies short =
    subst (λ (l : List Entry). IsSpine (books_of columns s l taken sessions published) s.later places) (sym (append-nil es)) k
kept_all_told columns s taken sessions published places session (t ∷ told) es k is none below replies short =
    let e = told_entry session t in
    let b : Books = books_of columns s es taken sessions published in
    let said = All-head (λ u. u.1 ≡ reply_to s.limit (all_updates s) (call.Select u.0)) t told replies in
    let first : IsSpine (books_of columns s (es ++ e ∷ []) taken sessions published) s.later places =
    subst (λ r. IsSpine (books_of columns s (es ++ entry session (call.Select t.0) (state.Answered r) ∷ []) taken sessions published) s.later places) (sym said)
    (kept_told columns s es taken sessions published places session t.0 k is none (All-head (λ u. CallsBelow (length columns) (call.Select u.0)) t told below) (omega (arith, short))) in
    let rest : waits_for session (books_of columns s (es ++ e ∷ []) taken sessions published) ≡ None = waiting_push_closed session s.limit (opened s.rows) es e refl ∙ none in
    let more : length (es ++ e ∷ []) + length told ≤ 1048576 = (let long = length-append es (e ∷ []) in omega (arith, long, short)) in
    subst (λ (l : List Entry). IsSpine (books_of columns s l taken sessions published) s.later places) (append_assoc es (e ∷ []) (map (told_entry session) told))
    (kept_all_told columns s taken sessions published places session told (es ++ e ∷ []) first is rest (All-tail (λ u. CallsBelow (length columns) (call.Select u.0)) t told below) (All-tail (λ u. u.1 ≡ reply_to s.limit (all_updates s) (call.Select u.0)) t told replies) more)
