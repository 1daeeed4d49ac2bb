use Rattle.std.proofs.Common.{rules, ◌≡◌, ◌∙◌, ap, sym, refl, length, Some, None, ◌+◌, ◌-◌, arith, codes, string_bytes}
use Rattle.json.specs.Json.{read_key, value}
use Rattle.json.proofs.Grammar.{read_key-shorter}
use Rattle.serde_json.specs.Data.{no_members, put}
use Rattle.serde_json.specs.View.{members_view, view}
use Rattle.serde_json.proofs.Views.{members_view-insert_entry}
use Rattle.sw_histories.specs.Outlines.{after_members, is_passed, outline_at, outline_of}
use Rattle.sw_histories.proofs.Found.ValueReading.{key_refused, member_read, member_refused, members_over}
use Rattle.sw_histories.proofs.Found.OutlineLemmas.{member_passed, members_passed, outline_put, stands_more}
use Rattle.sw_histories.proofs.reading.outline.outline_members.Goals as goal

pub members-init : goal.members-init
members-init c = (length c.args.reader.now, no_members, omega arith, refl, omega arith, ap members_view c.new-found.ensures.empty, refl, refl, refl)

pub returns-in_err-name-clause-err : goal.returns-in_err-name-clause-err
returns-in_err-name-clause-err c refused =
    let l = c.members in
    l.invariant.3 ∙ key_refused (value 126) l.invariant.1 l.invariant.0 l.reader c.in_err-name.ensures.value

pub returns-in_err-member-clause-err : goal.returns-in_err-member-clause-err
returns-in_err-member-clause-err c refused =
    let l = c.members in
    let k = c.in-Some.name.now in
    let s = c.next_key.new.self in
    let named : read_key l.reader ≡ Some (Some k, s) = grind arith in
    l.invariant.3 ∙ member_refused (value 126) l.invariant.1 l.invariant.0 k l.reader s named (c.read_member.ensures.err (grind arith))

pub members-preserved : goal.members-preserved
members-preserved c =
    let l = c.members in
    let n = l.invariant.0 in
    let all = l.invariant.1 in
    let k = c.in-Some.name.now in
    let s = c.next_key.new.self in
    let named : read_key l.reader ≡ Some (Some k, s) = grind arith in
    let read = c.in_ok-member.ensures.ok in
    let d = read.0 in
    let r = c.read_member.new.reader in
    let less = read_key-shorter l.reader (Some k) s named in
    let lesser = c.in_ok-member.ensures.shorter in
    let copied : string_bytes c.in_ok-key.key ≡ k = search rules in
    let inserted : members_view c.insert.new.self.entries ≡ put k (view c.in_ok-member.member) (members_view l.found.entries) =
    ap members_view c.in_ok-insert.ensures.entries ∙ members_view-insert_entry l.found.entries c.in_ok-key.key c.in_ok-member.member ∙ ap (λ name. put name (view c.in_ok-member.member) (members_view l.found.entries)) copied in
    let drawn : members_view c.insert.new.self.entries ≡ outline_of (put k d all) =
    inserted ∙ ap (λ v. put k v (members_view l.found.entries)) read.2 ∙ ap (put k (outline_at k d)) l.invariant.5 ∙ sym (outline_put k d all) in
    let next : c.in-Some-checked_add.next ≡ l.place + 1 = grind arith in (
      n - 1,
      put k d all,
      omega (arith, l.invariant.2, less, lesser),
      l.invariant.3 ∙ member_read (value 126) all n k l.reader s r d (omega (arith, l.invariant.2, less)) named read.1,
      omega (arith, l.invariant.4, less, lesser),
      drawn,
      ap (λ m. after_members m c.args.reader.now) next ∙ members_passed l.place c.args.reader.now l.reader r l.invariant.6 (member_passed l.reader s r k d named read.1),
      rw c.standing-entries.ensures (stands_more (codes "entries") l.entries k c.in_ok-member.counted l.place d all c.args.reader.now l.reader s l.invariant.6 named (λ e. read.3 (ap is_passed e)) l.invariant.7),
      rw c.standing-rows.ensures (stands_more (codes "rows") l.rows k c.in_ok-member.counted l.place d all c.args.reader.now l.reader s l.invariant.6 named (λ e. read.3 (ap is_passed e)) l.invariant.8),
    )

pub returns-clause-ok : goal.returns-clause-ok
returns-clause-ok c =
    let l = c.members in
    let over : read_key l.reader ≡ Some (None, c.next_key.new.self) = grind arith in
    record {
      all = l.invariant.1;
      read = l.invariant.3 ∙ members_over (value 126) l.invariant.1 l.invariant.0 l.reader c.next_key.new.self l.invariant.2 over;
      outline = l.invariant.5;
      entries = l.invariant.7;
      rows = l.invariant.8;
    }
