-- Laws of writing into a page: nothing, one byte, and one piece after another.
use Rattle.std.proofs.Common.{◌≡◌, ℕ, ◌+◌, ◌≤◌, ◌<◌, List, [], ◌∷◌, ◌++◌, length, take, drop, sym, ap, ◌∙◌, ◌⊎◌, inl, inr, arith, append_assoc, length-append, take-append-drop, drop_at}
use Rattle.graphs.proofs.Tests.{below?}
use lib.ListN.{set}
use lib.Seq.{drop-drop, set_split}
use native.Mathlib.Nat.{add-zero}
use native.Mathlib.Numerals.{add-one}
use Rattle.std.proofs.lemmas.Grind.{common_steps}
use Rattle.std.proofs.lemmas.List.Folds.{length-flat_map-take}
use Rattle.page.specs.declared.Page.{Page as Lent}
use Rattle.page.specs.Page.{Page, written, onto, puts, Adds}

-- nothing is written
pub onto_none : (page : Page) → page ≡ onto page []
unfolding onto
onto_none page = rw (add-zero, take-append-drop)

pub puts_one : (page : List ℕ) (at b : ℕ) → at < length page → written (at + 1) (set page at b) ≡ puts page at (b ∷ [])
unfolding onto
puts_one page at b h = rw (set_split page at b h, add-one)

-- the front of a page that is written on
front : (e : ℕ) (bs l : List ℕ) → take (e + length l) (take e bs ++ (l ++ drop (e + length l) bs)) ≡ take e bs ++ l
front e bs l = go (below? e (length bs))
  where
    go : (e < length bs) ⊎ (length bs ≤ e) → take (e + length l) (take e bs ++ (l ++ drop (e + length l) bs)) ≡ take e bs ++ l
    go (inl low) = grind (arith, common_steps)
    go (inr high) = grind (arith, common_steps)

-- and what comes after it
rest : (e : ℕ) (bs l : List ℕ) → drop (e + length l) (take e bs ++ (l ++ drop (e + length l) bs)) ≡ drop (e + length l) bs
rest e bs l = go (below? e (length bs))
  where
    go : (e < length bs) ⊎ (length bs ≤ e) → drop (e + length l) (take e bs ++ (l ++ drop (e + length l) bs)) ≡ drop (e + length l) bs
    go (inl low) =
        ap (drop (e + length l)) (sym (append_assoc (take e bs) l (drop (e + length l) bs)))
        ∙ drop_at (take e bs ++ l) (drop (e + length l) bs) (e + length l) (grind (arith, common_steps))
    go (inr high) = grind (arith, common_steps)

back : (e k : ℕ) (bs l : List ℕ) → drop (e + length l + k) (take e bs ++ (l ++ drop (e + length l) bs)) ≡ drop (e + length l + k) bs
back e k bs l = sym (drop-drop k (e + length l) (take e bs ++ (l ++ drop (e + length l) bs))) ∙ ap (drop k) (rest e bs l) ∙ drop-drop k (e + length l) bs

-- m after l is l ++ m
pub onto_onto : (p : Page) (l m : List ℕ) → onto (onto p l) m ≡ onto p (l ++ m)
unfolding onto
onto_onto p l m =
    let ends : p.end + length l + length m ≡ p.end + length (l ++ m) = omega (arith, length-append l m) in
    let all : take (p.end + length l) (take p.end p.bytes ++ (l ++ drop (p.end + length l) p.bytes))
    ++ (m ++ drop (p.end + length l + length m) (take p.end p.bytes ++ (l ++ drop (p.end + length l) p.bytes)))
    ≡ take p.end p.bytes ++ ((l ++ m) ++ drop (p.end + length (l ++ m)) p.bytes) =
    rw (front p.end p.bytes l, back p.end (length m) p.bytes l, ends, append_assoc (take p.end p.bytes) l _, append_assoc l m _) in
    (λ i. record { end = ends i; bytes = all i })

pub adds_then : {old mid new : Lent} (l m : List ℕ) → Adds old mid l → Adds mid new m → Adds old new (l ++ m)
adds_then {old} {mid} {new} l m first rest =
    record {
      wrote = rest.wrote ∙ ap (λ p. onto p m) first.wrote ∙ onto_onto (written old.len old.bytes.now) l m;
      end = omega (arith, first.end, rest.end, length-append l m);
      long = rest.long ∙ first.long;
      same = rest.same ∙ first.same;
    }

-- what is written from the front on lies within the page
pub written_within : (page l : List ℕ) {a : ℕ} {p : List ℕ} → written a p ≡ puts page 0 l → a ≤ length p
unfolding onto
written_within page l {a} {p} e =
    let long : length p ≡ length (l ++ drop (0 + length l) page) = ap (λ k. length k.bytes) e in
    let end : a ≡ 0 + length l = ap (λ k. k.end) e in
    let both = length-append l (drop (0 + length l) page) in
    omega (arith, long, end, both)

-- what a check uses where pieces are written one after another, or by a loop
pub ruleset laws = (common_steps, onto_none, onto_onto, length-flat_map-take)
