-- The room cut at worker p's stretch, and the stretch cut into its parts: what is lent is the machine's; and joined again, it is the room of the machine
-- after the turn.
use Prim.Native.Nat.{ℕ, suc, ◌-◌, ◌*◌, ◌<◌, ◌≤◌}
use mathlib.Core.Path.{◌≡◌, refl, sym, ap, ◌∙◌}
use mathlib.Core.Bool.{true}
use mathlib.Core.List.{List, [], ◌∷◌, ◌++◌, append_assoc}
use mathlib.Core.Logic.{◌≢◌}
use lib.ListN.{length, set}
use native.Mathlib.Nat.{sub-zero, zero-add}
use native.Mathlib.Omega.{arith}
use Rattle.graphs.specs.declared.graph.Graph as checked
use Rattle.graphs.specs.Words.{is_graph}
use Rattle.graphs.proofs.Words.{words_are}
use Rattle.graphs.proofs.Tab.{tab_long}
use Rattle.moves.specs.Machine.{Worker, Machine}
use Rattle.moves.specs.Room.{bits, kind_word, seed_word, span, stretch, spans, room, Fits, AllFit}
use Rattle.moves.specs.Words.{IsSet, IsStack, IsCounts}
use Rattle.moves.specs.declared.own.Own.{Own}
use Rattle.moves.specs.Own.{own_in}
use Rattle.moves.proofs.Joined.{split}
use Rattle.moves.proofs.Bits.{bits_long}
use Rattle.moves.proofs.Pile.{pile_long}
use Rattle.moves.proofs.Room.{place_words, span_long, spans_long}
use Rattle.moves.proofs.Stretch.{spans_other}
use Rattle.turn.specs.declared.stretch.Stretch.{Stretch}
use Rattle.theory.specs.Invariant.{Invariant}
use Rattle.turn.specs.Holds.{Holds, graph_in}
use Rattle.turn.specs.Lent.{LentOf, IsSpan}

pub few_states : (offsets targets flags : List ℕ) → is_graph offsets targets flags ≡ true → length flags ≤ 4096
few_states offsets targets flags is = (words_are offsets targets flags is).few

-- a list that begins with a is cut where a ends
pub halved : {l a b x y : List ℕ} (n : ℕ) → l ≡ a ++ b → length a ≡ n → l ≡ x ++ y → length x ≡ n → (x ≡ a) × (y ≡ b)
halved {l} {a} {b} {x} {y} n e long f long' = split x a y b (long' ∙ sym long) (sym f ∙ e)

-- the room of a machine whose workers are m's, but for p
module _ (n P p : ℕ) (h : p < P) (m : Machine) (rest : List ℕ) where
  pub whole : (m' : Machine) → ((q : ℕ) → q ≢ p → m'.worker q ≡ m.worker q)
      → room n P m' ++ rest
      ≡ bits n m'.blue ++ (bits n m'.red ++ (spans n 0 p m.worker ++ (span n (m'.worker p) ++ (spans n (suc p) (P - suc p) m.worker ++ rest))))
  unfolding room
  whole m' others =
      let e = rw (sub-zero, zero-add) at (spans_other n m.worker m'.worker p others 0 P (omega arith) (omega arith)) in
      rw (e, append_assoc, append_assoc, append_assoc, append_assoc)

-- the five pieces of the room
pub record RoomCut (n P p : ℕ) (m : Machine) (rest blue red before own after : List ℕ) : Type 0 where
  pub blue_is : blue ≡ bits n m.blue
  pub red_is : red ≡ bits n m.red
  pub before_is : before ≡ spans n 0 p m.worker
  pub own_is : own ≡ span n (m.worker p)
  pub after_is : after ≡ spans n (suc p) (P - suc p) m.worker ++ rest

pub room_cut : {l blue a red b before c own after : List ℕ} {k : ℕ} (n P p : ℕ) (m : Machine) (rest : List ℕ) → k ≡ n → p < P → AllFit n P m
    → l ≡ room n P m ++ rest
    → l ≡ blue ++ a → length blue ≡ k → a ≡ red ++ b → length red ≡ k → b ≡ before ++ c → length before ≡ p * stretch k
    → c ≡ own ++ after → length own ≡ stretch k
    → RoomCut n P p m rest blue red before own after
room_cut n P p m rest same h fits form e1 l1 e2 l2 e3 l3 e4 l4 =
    let each = spans_long n 0 p m.worker (λ q a b. fits q (omega (arith, h))) in
    let blue = halved n (form ∙ whole n P p h m rest m (λ q ne. refl)) (bits_long n m.blue) e1 (l1 ∙ same) in
    let red = halved n blue.1 (bits_long n m.red) e2 (l2 ∙ same) in
    let before = halved (p * stretch n) red.1 each e3 (l3 ∙ ap (λ i. p * stretch i) same) in
    let own = halved (stretch n) before.1 (span_long n (m.worker p) (fits p h)) e4 (l4 ∙ ap stretch same) in
    record { blue_is = blue.0; red_is = red.0; before_is = before.0; own_is = own.0; after_is = own.1 }

pub cut_lent : {g : checked.Graph} {P p : ℕ} {m : Machine} {rest blue red before own after : List ℕ} → p < P → Invariant (graph_in g) P m
    → RoomCut (length g.flags.now) P p m rest blue red before own after → LentOf g P p m blue red (IsSpan own)
cut_lent named inv cut =
    record {
      named = named;
      inv = inv;
      lent = record { blue_is = record { words = cut.blue_is }; red_is = record { words = cut.red_is }; own = record { words = cut.own_is } };
    }

-- joined again, with other colours and another worker p
pub room_joined : {n P p : ℕ} {m : Machine} {rest blue red before own after blue' red' own' : List ℕ} → RoomCut n P p m rest blue red before own after
    → p < P → (m' : Machine) → ((q : ℕ) → q ≢ p → m'.worker q ≡ m.worker q) → IsSet n m'.blue blue' → IsSet n m'.red red' → own' ≡ span n (m'.worker p)
    → blue' ++ (red' ++ (before ++ (own' ++ after))) ≡ room n P m' ++ rest
room_joined {n} {P} {p} {m} {rest} cut h m' others blue red own =
    rw (blue.words, red.words, cut.before_is, own, cut.after_is) (sym (whole n P p h m rest m' others))

-- the parts of a stretch, with the place and depths that its last four words tell
pub record Parted (n : ℕ) (w : Worker) (cyan gathered outer inner taken : List ℕ) (at : Own) : Type 0 where
  pub place : at.place ≡ w.place
  pub cyan_is : IsSet n w.cyan cyan
  pub R_is : IsSet n w.R gathered
  pub outer_is : IsStack n w.outer outer at.outer
  pub inner_is : IsStack n w.inner inner at.inner
  pub taken_is : IsCounts n w.taken taken

pub parted : {own cyan a gathered b outer c inner d taken : List ℕ} {at : Own} {k : ℕ} (n : ℕ) (w : Worker) (last : List ℕ) → k ≡ n → Fits n w
    → own ≡ span n w
    → own ≡ cyan ++ a → length cyan ≡ k → a ≡ gathered ++ b → length gathered ≡ k → b ≡ outer ++ c → length outer ≡ k
    → c ≡ inner ++ d → length inner ≡ k → d ≡ taken ++ last → length taken ≡ k → at ≡ own_in last 0
    → Parted n w cyan gathered outer inner taken at
unfolding span
parted n w last same fits form e1 l1 e2 l2 e3 l3 e4 l4 e5 l5 told =
    let cyan = halved n form (bits_long n w.cyan) e1 (l1 ∙ same) in
    let R = halved n cyan.1 (bits_long n w.R) e2 (l2 ∙ same) in
    let outer = halved n R.1 (pile_long n w.outer fits.outer_fits) e3 (l3 ∙ same) in
    let inner = halved n outer.1 (pile_long n w.inner fits.inner_fits) e4 (l4 ∙ same) in
    let taken = halved n inner.1 (tab_long 0 n w.taken) e5 (l5 ∙ same) in
    let at = told ∙ ap (λ l. own_in l 0) taken.1 in
    record {
      place = ap (λ o. o.place) at ∙ place_words w.place;
      cyan_is = record { words = cyan.0 };
      R_is = record { words = R.0 };
      outer_is = record { long = l3 ∙ same; words = outer.0; depth = ap (λ o. o.outer) at };
      inner_is = record { long = l4 ∙ same; words = inner.0; depth = ap (λ o. o.inner) at };
      taken_is = record { words = taken.0 };
    }

-- what is lent with the stretch in one piece is lent with its parts
pub lent_parts : {g : checked.Graph} {P p : ℕ} {m : Machine} {blue red own : List ℕ} {k : Stretch} → LentOf g P p m blue red (IsSpan own)
    → Parted (length g.flags.now) (m.worker p) k.cyan.now k.gathered.now k.outer.now k.inner.now k.taken.now
    (record { place = k.place; outer = k.outer_depth; inner = k.inner_depth })
    → LentOf g P p m blue red (Holds k)
lent_parts x q =
    record {
      named = x.named;
      inv = x.inv;
      lent = record {
        blue_is = x.lent.blue_is;
        red_is = x.lent.red_is;
        own = record { place = q.place; cyan = q.cyan_is; R = q.R_is; outer = q.outer_is; inner = q.inner_is; taken = q.taken_is };
      };
    }

-- the parts in one piece again, with the place and depths after them; and so if these are stored where four words were
pub parts_joined : {k : Stretch} {n : ℕ} {w : Worker} → Holds k n w
    → k.cyan.now
    ++ (k.gathered.now
    ++ (k.outer.now ++ (k.inner.now ++ (k.taken.now ++ (kind_word k.place ∷ seed_word k.place ∷ k.outer_depth ∷ k.inner_depth ∷ [])))))
    ≡ span n w
unfolding span
parts_joined h =
    rw (h.cyan.words, h.R.words, h.outer.words, h.inner.words, h.taken.words, h.place, h.outer.depth, h.inner.depth)

four : (l : List ℕ) (a b c d : ℕ) → length l ≡ 4 → set (set (set (set l 0 a) 1 b) 2 c) 3 d ≡ a ∷ b ∷ c ∷ d ∷ []
four (x ∷ y ∷ z ∷ t ∷ []) a b c d h = refl
four l a b c d h = absurd (omega (arith, h))

pub parts_stored : {k : Stretch} {n : ℕ} {w : Worker} → Holds k n w → (last : List ℕ) → length last ≡ 4
    → k.cyan.now
    ++ (k.gathered.now
    ++ (k.outer.now
    ++ (k.inner.now
    ++ (k.taken.now ++ set (set (set (set last 0 (kind_word k.place)) 1 (seed_word k.place)) 2 k.outer_depth) 3 k.inner_depth))))
    ≡ span n w
parts_stored h last long = rw (four last _ _ _ _ long) (parts_joined h)
