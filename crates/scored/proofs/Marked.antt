-- A set that is lost where a test fails keeps each promise, if every call keeps the test.
use Rattle.std.proofs.Common.{◌≡◌, ℕ, Bool, true, false, List, sym, refl, ap, ◌∙◌, subst}
use Rattle.docset.specs.Meaning.{Meaning, lost, Steady, Known}
use Rattle.docset.specs.Calls.{Told, Moved, Sought, Probed, Marks, Filled, Counted, CountedAlive}
use Rattle.docset.specs.declared.docset.SeekDangerResult.{SeekDangerResult}
use Rattle.docset.proofs.Lists.{steady_known}
use Rattle.scored.specs.Optional.{marked}

pub marked_known : (c : Bool) (m : Meaning) → Known (marked c m).mark → (c ≡ true) × Known m.mark
marked_known true m k = (refl, k)
marked_known false m k = absurd k

pub marked_steady : (c : Bool) (m : Meaning) → Steady (marked c m) → (c ≡ true) × Steady m
marked_steady true m s = (refl, s)
marked_steady false m s = absurd (steady_known lost s)

pub marked_true : (c : Bool) (m : Meaning) → c ≡ true → marked c m ≡ m
marked_true c m e = ap {B = Meaning} (λ (b : Bool). marked b m) e

pub told_marked : (c : Bool) (m : Meaning) (r : ℕ) → Told m r → Told (marked c m) r
told_marked c m r h =
    record {
      an_id = h.an_id;
      rises = λ k. h.rises (marked_known c m k).1;
      tells = λ s. h.tells (marked_steady c m s).1;
    }

-- what a call makes of a steady set
becomes_marked : (b c : Bool) (m n o : Meaning) → (c ≡ true → b ≡ true) → (Steady m → n ≡ o) → Steady (marked c m) → marked b n ≡ o
becomes_marked b c m n o f h s = let a = marked_steady c m s in marked_true b n (f a.0) ∙ h a.1

pub moved_marked :
    (b c : Bool) (m n : Meaning) (r : ℕ) → (c ≡ true → b ≡ true) → Moved m n r → Moved (marked c m) (marked b n) r
moved_marked b c m n r f h =
    record {
      an_id = h.an_id;
      shrinks = h.shrinks;
      drops = h.drops;
      becomes = becomes_marked b c m n _ f h.becomes;
      tells = λ s. h.tells (marked_steady c m s).1;
    }

pub sought_marked :
    (b c : Bool) (t : ℕ) (m n : Meaning) (r : ℕ) → (c ≡ true → b ≡ true) → Sought t m n r →
    Sought t (marked c m) (marked b n) r
sought_marked b c t m n r f h =
    record {
      an_id = h.an_id;
      shrinks = h.shrinks;
      becomes = becomes_marked b c m n _ f h.becomes;
      tells = λ s. h.tells (marked_steady c m s).1;
    }

pub probed_marked :
    (b c : Bool) (t : ℕ) (m n : Meaning) (r : SeekDangerResult) → (c ≡ true → b ≡ true) → Probed t m n r →
    Probed t (marked c m) (marked b n) r
probed_marked b c t m n r f h =
    record {
      an_id = h.an_id;
      shrinks = h.shrinks;
      answers = λ k.
          let a = marked_known c m k in
          let x = h.answers a.1 in
          record {
            tells = x.tells;
            leaves = x.leaves;
            marks = subst (λ (y : Meaning). Marks r y.mark) (sym (marked_true b n (f a.0))) x.marks;
            bounds = x.bounds;
          };
    }

pub filled_marked :
    (b c : Bool) (m n : Meaning) (old new : List ℕ) (r : ℕ) → (c ≡ true → b ≡ true) → Filled m n old new r →
    Filled (marked c m) (marked b n) old new r
filled_marked b c m n old new r f h =
    record {
      at_most = h.at_most;
      shrinks = h.shrinks;
      becomes = becomes_marked b c m n _ f h.becomes;
      writes = λ s. h.writes (marked_steady c m s).1;
      tells = λ s. h.tells (marked_steady c m s).1;
    }

pub counted_marked : (c : Bool) (m : Meaning) (r : ℕ) → Counted m r → Counted (marked c m) r
counted_marked c m r h = record { tells = λ s. h.tells (marked_steady c m s).1 }

pub counted_alive_marked :
    (c : Bool) (ws : List ℕ) (m : Meaning) (r : ℕ) → CountedAlive ws m r → CountedAlive ws (marked c m) r
counted_alive_marked c ws m r h = record { tells = λ s. h.tells (marked_steady c m s).1 }
