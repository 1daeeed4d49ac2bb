-- What a sink took, and the bytes that wait before it.
use Rattle.std.proofs.Common.{◌≡◌, ◌∙◌, sym, ap, subst, refl, ℕ, ◌+◌, List, [], ◌∷◌, ◌++◌, true, arith, length, take, drop, Option, Some, None, append_assoc}
use Rattle.std.proofs.lemmas.List.{append-nil, take-append-drop, take_all, drop-drop}
use Rattle.std.proofs.lemmas.Slice.Eq.{bytes_eq-Decides}
use Rattle.std.specs.Str.{bytes_eq}
use Rattle.std.specs.Io.KnownBytes.{Appends, Keeps, append_known}
use Rattle.sw_lang.specs.Sinks.{TookBeginning}
use Rattle.sw_cli.specs.Sent.{extends}

-- nothing was taken yet
pub wrote_nothing : (t : Option (List ℕ)) → Appends t t []
wrote_nothing None = tt
wrote_nothing (Some x) = sym (append-nil x)

-- what the sink took does not wait any longer
pub taken_on : (start old new : Option (List ℕ)) (block : List ℕ) (sent n : ℕ) → Keeps start (append_known old (drop sent block)) → Appends old new (take n (drop sent block)) → Keeps start (append_known new (drop (sent + n) block))
taken_on None old new block sent n h k = tt
taken_on (Some s) None new block sent n h k = absurd h
taken_on (Some s) (Some xs) None block sent n h k = absurd k
taken_on (Some s) (Some xs) (Some ys) block sent n h k =
    ap (λ (w : List ℕ). w ++ drop (sent + n) block) k
    ∙ append_assoc xs (take n (drop sent block)) (drop (sent + n) block)
    ∙ ap (λ (w : List ℕ). xs ++ (take n (drop sent block) ++ w)) (sym (drop-drop n sent block))
    ∙ ap (λ (w : List ℕ). xs ++ w) (take-append-drop n (drop sent block))
    ∙ h

-- a sink that failed took nothing
pub nothing_taken : (start old new : Option (List ℕ)) (bytes : List ℕ) → Keeps start (append_known old bytes) → Keeps old new → Keeps start (append_known new bytes)
nothing_taken None old new bytes h k = tt
nothing_taken (Some s) None new bytes h k = absurd h
nothing_taken (Some s) (Some xs) None bytes h k = absurd k
nothing_taken (Some s) (Some xs) (Some ys) bytes h k = ap (λ (w : List ℕ). w ++ bytes) k ∙ h

-- from what a block began with, which is what the sink had taken
pub from_start : (t total : Option (List ℕ)) (begun : Option (List ℕ)) (bytes : List ℕ) → begun ≡ append_known t [] → Appends begun total bytes → Appends t total bytes
from_start None total begun bytes e h = tt
from_start (Some x) None begun bytes e h = let k : Appends (Some (x ++ [])) None bytes = subst (λ (w : Option (List ℕ)). Appends w None bytes) e h in absurd k
from_start (Some x) (Some y) begun bytes e h =
    let k : Appends (Some (x ++ [])) (Some y) bytes = subst (λ (w : Option (List ℕ)). Appends w (Some y) bytes) e h in
    k ∙ ap (λ (w : List ℕ). w ++ bytes) (append-nil x)

-- what is kept is what was appended
pub kept_on : (t one two : Option (List ℕ)) (bytes : List ℕ) → Appends t one bytes → Keeps one two → Appends t two bytes
kept_on None one two bytes h k = tt
kept_on (Some x) None two bytes h k = absurd h
kept_on (Some x) (Some y) None bytes h k = absurd k
kept_on (Some x) (Some y) (Some z) bytes h k = k ∙ h

-- nothing waits any longer
pub all_sent : (t u : Option (List ℕ)) (bytes : List ℕ) → Appends t (append_known u []) bytes → Appends t u bytes
all_sent None u bytes h = tt
all_sent (Some x) None bytes h = absurd h
all_sent (Some x) (Some y) bytes h = sym (append-nil y) ∙ h

-- ---- what came after what a sink had taken

-- bytes come after themselves
pub extends_self : (t : Option (List ℕ)) → extends t t ≡ true
extends_self None = refl
extends_self (Some x) = same (take (length x) x) (take_all (length x) x (omega arith))
  where
    same : (y : List ℕ) → y ≡ x → bytes_eq y x ≡ true
    same y e = (bytes_eq-Decides y x).1 e

-- bytes that begin with x are x and what comes after it
begins : (x y : List ℕ) → bytes_eq (take (length x) y) x ≡ true → (rest : List ℕ) × (y ≡ x ++ rest)
begins x y h = (drop (length x) y, sym (take-append-drop (length x) y) ∙ ap (λ (l : List ℕ). l ++ drop (length x) y) ((bytes_eq-Decides (take (length x) y) x).0 h))

front : (x rest : List ℕ) → take (length x) (x ++ rest) ≡ x
front [] rest = refl
front (b ∷ x) rest = ap (λ (l : List ℕ). b ∷ l) (front x rest)

begun : (x y rest : List ℕ) → y ≡ x ++ rest → bytes_eq (take (length x) y) x ≡ true
begun x y rest e = (bytes_eq-Decides (take (length x) y) x).1 (ap (take (length x)) e ∙ front x rest)

-- bytes that come after those of a sink still do where it takes more
pub extends_more : (t old new : Option (List ℕ)) (bytes : List ℕ) → extends t old ≡ true → Appends old new bytes → extends t new ≡ true
extends_more None old new bytes h k = refl
extends_more (Some x) None new bytes h k = absurd cc
extends_more (Some x) (Some y) None bytes h k = absurd k
extends_more (Some x) (Some y) (Some z) bytes h k =
    let b = begins x y h in begun x z (b.0 ++ bytes) (k ∙ ap (λ (l : List ℕ). l ++ bytes) b.1 ∙ append_assoc x b.0 bytes)

-- bytes that come after others still do where they are kept
pub extends_kept : (t old new : Option (List ℕ)) → extends t old ≡ true → Keeps old new → extends t new ≡ true
extends_kept None old new h k = refl
extends_kept (Some x) None new h k = absurd cc
extends_kept (Some x) (Some y) None h k = absurd k
extends_kept (Some x) (Some y) (Some z) h k = subst (λ (l : List ℕ). bytes_eq (take (length x) l) x ≡ true) (sym k) h

cancel : (x y z : List ℕ) → x ++ y ≡ x ++ z → y ≡ z
cancel [] y z h = h
cancel (b ∷ x) y z h = cancel x y z (tail h)
  where
    tail : {c d : ℕ} {l m : List ℕ} → ◌≡◌ {A = List ℕ} (c ∷ l) (d ∷ m) → l ≡ m
    tail h = cc

-- what a sink took is a beginning where it is one with what waits
pub begins_alone : (t now : Option (List ℕ)) (waiting text : List ℕ) → extends t now ≡ true → TookBeginning t (append_known now waiting) text → TookBeginning t now text
begins_alone None now waiting text h b = (text, [], sym (append-nil text), tt)
begins_alone (Some x) None waiting text h b = absurd cc
begins_alone (Some x) (Some y) waiting text h b =
    let at = begins x y h in
    let after : at.0 ++ waiting ≡ b.0 = cancel x (at.0 ++ waiting) b.0 (sym (append_assoc x at.0 waiting) ∙ ap (λ (l : List ℕ). l ++ waiting) (sym at.1) ∙ b.3) in
    (at.0, waiting ++ b.1, b.2 ∙ ap (λ (l : List ℕ). l ++ b.1) (sym after) ∙ append_assoc at.0 waiting b.1, at.1)
