-- A text goes out in pieces.
use Rattle.std.proofs.Common.{◌≡◌, ℕ, List, [], ◌++◌, Option, Some, None, Result, Ok, Err, refl, sym, ap, subst, ◌∙◌, append_assoc}
use Rattle.std.specs.Result.{IsErrAnd}
use Rattle.std.proofs.lemmas.List.{append-nil}
use Rattle.sw_rows.specs.Gives.{Raised}
use Rattle.sw_query.specs.declared.refusal.Refusal.{Refusal}
use Rattle.sw_query.specs.declared.refusal.Refusal.TheVariants as refusal
use Rattle.sw_lang.specs.Sinks.{Took, TookBeginning, Writes}

-- a front of the text went out, and this rest of it did not yet
pub record Progress (old new : Option (List ℕ)) (failed_old failed_new : ℕ) (text rest : List ℕ) : Type 0 where
  pub front : List ℕ
  pub parts : text ≡ front ++ rest
  pub took : Took old new front
  pub counted : failed_new ≡ failed_old

took_more : (a b c : Option (List ℕ)) (x y : List ℕ) → Took a b x → Took b c y → Took a c (x ++ y)
took_more None b c x y h k = tt
took_more (Some o) None c x y h k = absurd h
took_more (Some o) (Some p) None x y h k = absurd k
took_more (Some o) (Some p) (Some q) x y h k = k ∙ ap (λ (w : List ℕ). w ++ y) h ∙ append_assoc o x y

took_nothing : (a : Option (List ℕ)) → Took a a []
took_nothing None = tt
took_nothing (Some o) = sym (append-nil o)

-- nothing went out yet
pub begin : {a : Option (List ℕ)} {p : ℕ} {text : List ℕ} → Progress a a p p text text
begin {a} {p} {text} = record { front = []; parts = refl; took = took_nothing a; counted = refl }

-- a piece that went out
pub go_on : {a b c : Option (List ℕ)} {p q r : ℕ} {text : List ℕ} (x y : List ℕ) → Progress a b p q text (x ++ y) → Took b c x → r ≡ q → Progress a c p r text y
go_on {a} {b} {c} x y g t e = record {
  front = g.front ++ x;
  parts = g.parts ∙ sym (append_assoc g.front x y);
  took = took_more a b c g.front x g.took t;
  counted = e ∙ g.counted;
}

-- a piece that a writer wrote
pub step : {a b c : Option (List ℕ)} {p q r : ℕ} {text x y : List ℕ} {u : Unit {0}} → Progress a b p q text (x ++ y) → Writes b c q r (Ok u) x → Progress a c p r text y
step {x = x} {y = y} g w = go_on x y g w.whole.0 w.whole.1

-- all of it went out
pub finish : {a b : Option (List ℕ)} {p q : ℕ} {text : List ℕ} {u : Unit {0}} → Progress a b p q text [] → Writes a b p q (Ok u) text
finish {a} {b} g = record {
  whole = (subst (λ (w : List ℕ). Took a b w) (sym (g.parts ∙ append-nil g.front)) g.took, g.counted);
  part = tt;
}

-- a failed piece
pub fail : {a b c : Option (List ℕ)} {p q r : ℕ} {text : List ℕ} (x y : List ℕ) → Progress a b p q text (x ++ y) → TookBeginning b c x → Raised q r → Writes a c p r (Err refusal.Output) text
fail {a} {b} {c} {p} {q} {r} x y g t h = record {
  whole = tt;
  part = (
    refl,
    (
      g.front ++ t.0,
      t.1 ++ y,
      g.parts ∙ ap (λ (z : List ℕ). g.front ++ (z ++ y)) t.2 ∙ ap (λ (z : List ℕ). g.front ++ z) (append_assoc t.0 t.1 y) ∙ sym (append_assoc g.front t.0 (t.1 ++ y)),
      took_more a b c g.front t.0 g.took t.3,
    ),
    subst (λ (n : ℕ). Raised n r) g.counted h,
  );
}

-- two pieces, one after the other
pub both : {a b c : Option (List ℕ)} {p q r : ℕ} {u : Unit {0}} (x y : List ℕ) (res : Result (Unit {0}) Refusal) → Writes a b p q (Ok u) x → Writes b c q r res y → Writes a c p r res (x ++ y)
both {a} {b} {c} x y (Ok v) w z = record {
  whole = (took_more a b c x y w.whole.0 z.whole.0, z.whole.1 ∙ w.whole.1);
  part = tt;
}
both {a} {b} {c} {r = r} x y (Err e) w z =
    let t = z.part.1 in
    record {
      whole = tt;
      part = (
        z.part.0,
        (x ++ t.0, t.1, ap (λ (v : List ℕ). x ++ v) t.2 ∙ sym (append_assoc x t.0 t.1), took_more a b c x t.0 w.whole.0 t.3),
        subst (λ (n : ℕ). Raised n r) w.whole.1 z.part.2,
      );
    }

-- the first of two pieces failed, and the answer is that refusal
pub stops : {a b : Option (List ℕ)} {p q : ℕ} {e : Refusal} (x y : List ℕ) (res : Result (Unit {0}) Refusal) → IsErrAnd res (λ d. d ≡ e) → Writes a b p q (Err e) x → Writes a b p q res (x ++ y)
stops x y (Ok u) h w = absurd h
stops x y (Err d) h w =
    let t = w.part.1 in
    record {
      whole = tt;
      part = (h ∙ w.part.0, (t.0, t.1 ++ y, ap (λ (z : List ℕ). z ++ y) t.2 ∙ append_assoc t.0 t.1 y, t.3), w.part.2);
    }

-- a piece within a text failed, and the answer is that refusal
pub stops_within : {a b c : Option (List ℕ)} {p q r : ℕ} {text : List ℕ} {e : Refusal} (x y : List ℕ) (res : Result (Unit {0}) Refusal) → IsErrAnd res (λ d. d ≡ e) → Progress a b p q text (x ++ y) → Writes b c q r (Err e) x → Writes a c p r res text
stops_within x y (Ok u) h g w = absurd h
stops_within {a} {c = c} {p} {r = r} {text} x y (Err d) h g w =
    subst (λ (k : Refusal). Writes a c p r (Err k) text) (sym (h ∙ w.part.0)) (fail x y g w.part.1 w.part.2)

-- the rest of a text, behind what went out
pub last : {a b c : Option (List ℕ)} {p q r : ℕ} {text x : List ℕ} (res : Result (Unit {0}) Refusal) → Progress a b p q text x → Writes b c q r res x → Writes a c p r res text
last {a} {b} {c} {p} {q} {r} {text} {x} res g w =
    let before : Writes a b p q (Ok (tt {0})) g.front = record { whole = (g.took, g.counted); part = tt } in
    subst (λ (t : List ℕ). Writes a c p r res t) (sym g.parts) (both g.front x res before w)
