-- Runs of steady sets are the plain list's logs, and these tell lists apart.
use Rattle.std.proofs.Common.{◌≡◌, ℕ, zero, suc, ◌+◌, ◌<◌, ◌≤◌, Bool, true, false, cond, ltb, ◌⊎◌, List, [], ◌∷◌, ◌++◌, length, get_or, take, drop, sym, refl, ap, ◌∙◌, subst, inl, inr, arith, length-drop, length-take}
use Rattle.std.proofs.lemmas.List.{take_more}
use Rattle.docset.specs.declared.docset.SeekDangerResult.{SeekDangerResult}
use Rattle.docset.specs.declared.docset.SeekDangerResult.TheVariants.{Found, SeekLowerBound}
use Rattle.docset.specs.Meaning.{Meaning, Pair, TERM, Steady, Known, calm, ids, first_id, first_score, rest, from, has, probed, Rising}
use Rattle.docset.specs.Calls.{found, Marks}
use Rattle.docset.proofs.Lists.{steady_known, settled, rising_rest, rising_from, from_shorter}
use Rattle.logs.specs.declared.call.Call.{Call}
use Rattle.logs.specs.declared.call.Call.TheVariants.{Doc, Score, Advance, Seek, Probe, Block}
use Rattle.logs.specs.declared.call.Answer.{Answer}
use Rattle.logs.specs.declared.call.Answer.TheVariants.{Id, Points, Written, Number}
use Rattle.logs.specs.Plain.{after, hit, reply, End, ongoing, counted, counted_all, close, log, left, missed, missed_last, May, MayEnd, LegalFrom}
use Rattle.logs.specs.Runs.{Promise, Ended, Runs, Replayed, SameLogs, Tells, SameTold, ToldApart}

-- ---- one call

-- where a log stands: steady, or after a miss steady or astray
abbrev pub Ready : Bool → Meaning → Type 0
Ready false m = Steady m
Ready true m = Known m.mark

ready_known : (w : Bool) (m : Meaning) → Ready w m → Known m.mark
ready_known false m s = steady_known m.mark s
ready_known true m s = s

-- a call that was answered as the plain list does
pub record Stepped (c : Call) (m n : Meaning) (a : Answer) : Type 0 where
  pub said : a ≡ reply c m.pairs
  pub list : n.pairs ≡ after c m.pairs
  pub ready : Ready (missed a) n

probe_ready : (r : SeekDangerResult) (n : Meaning) → Marks r n.mark → Ready (missed (hit (found r))) n
probe_ready Found n h = h
probe_ready (SeekLowerBound b) n h = h

stepped : (c : Call) (m n : Meaning) (a : Answer) (ps : List Pair) → a ≡ reply c m.pairs → missed a ≡ false → n ≡ calm ps → ps ≡ after c m.pairs → Stepped c m n a
stepped c m n a ps x y z e =
    record {
      said = x;
      list = ap (λ (k : Meaning). k.pairs) z ∙ e;
      ready = subst (λ (b : Bool). Ready b n) (sym y) (ap (λ (k : Meaning). k.mark) z);
    }

itself : (m : Meaning) → Steady m → m ≡ calm m.pairs
itself m s = settled m m.pairs s refl

pub step : (w : Bool) (c : Call) (m n : Meaning) (a : Answer) → May w c → Ready w m → Promise c m n a → Stepped c m n a
step false Doc m n a h s p =
    stepped Doc m n a m.pairs (p.1 ∙ ap Id (p.3.tells s)) (ap missed p.1) (p.2 ∙ itself m s) refl
step false Score m n a h s p =
    stepped Score m n a m.pairs (p.1 ∙ ap Points (p.2.tells s)) (ap missed p.1) (p.2.same s ∙ itself m s) refl
step false Advance m n a h s p =
    stepped Advance m n a _ (p.1 ∙ ap Id (p.2.tells s)) (ap missed p.1) (p.2.becomes s) refl
step false (Seek t) m n a h s p =
    stepped (Seek t) m n a _ (p.1 ∙ ap Id (p.2.tells s)) (ap missed p.1) (p.2.becomes s) refl
step w (Probe t) m n a h s p =
    let k = p.2.answers (ready_known w m s) in
    record {
      said = p.1 ∙ ap hit k.tells;
      list = k.leaves;
      ready = subst (λ (x : Answer). Ready (missed x) n) (sym p.1) (probe_ready p.0 n k.marks);
    }
step false (Block b) m n a h s p =
    stepped (Block b) m n a _
    (p.2 ∙ ap (λ (x : List ℕ). Written p.0 x) (p.3.writes s) ∙
    ap (λ (x : ℕ). Written x (take 64 (ids m.pairs) ++ drop x b)) (p.3.tells s))
    (ap missed p.2) (p.3.becomes s) refl
step true Doc m n a h s p = elim h [ ]
step true Score m n a h s p = elim h [ ]
step true Advance m n a h s p = elim h [ ]
step true (Seek t) m n a h s p = elim h [ ]
step true (Block b) m n a h s p = elim h [ ]

-- ---- whole runs

-- what a legal run is
pub record Plainly (w : Bool) (m n : Meaning) (cs : List Call) (z : End) (xs : List Answer) : Type 0 where
  pub said : xs ≡ log m.pairs cs z
  pub list : n.pairs ≡ left m.pairs cs
  pub ready : Ready (missed_last w xs) n

closes : (w : Bool) (m : Meaning) (z : End) (xs : List Answer) → Ready w m → MayEnd w z → Ended z m xs → xs ≡ close z m.pairs
closes w m ongoing xs s h e = e
closes false m (counted ws) xs s h e = e.1 ∙ ap (λ (r : ℕ). Number r ∷ []) (e.2.tells s)
closes false m counted_all xs s h e = e.1 ∙ ap (λ (r : ℕ). Number r ∷ []) (e.2.tells s)
closes true m (counted ws) xs s h e = elim h [ ]
closes true m counted_all xs s h e = elim h [ ]

close_ready : (w : Bool) (m : Meaning) (z : End) (xs : List Answer) → Ready w m → MayEnd w z → Ended z m xs → Ready (missed_last w xs) m
close_ready w m ongoing xs s h e = subst (λ (v : List Answer). Ready (missed_last w v) m) (sym e) s
close_ready false m (counted ws) xs s h e = subst (λ (v : List Answer). Ready (missed_last false v) m) (sym e.1) s
close_ready false m counted_all xs s h e = subst (λ (v : List Answer). Ready (missed_last false v) m) (sym e.1) s
close_ready true m (counted ws) xs s h e = elim h [ ]
close_ready true m counted_all xs s h e = elim h [ ]

plainly_none : (w : Bool) (m n : Meaning) (z : End) (xs : List Answer) → Ready w m → Runs m [] z xs n → MayEnd w z → Plainly w m n [] z xs
plainly_none w m n z xs s r h =
    record {
      said = closes w m z xs s h r.1;
      list = ap (λ (k : Meaning). k.pairs) r.0;
      ready = subst (λ (k : Meaning). Ready (missed_last w xs) k) (sym r.0) (close_ready w m z xs s h r.1);
    }

plainly_more :
    (w : Bool) (c : Call) (m k n : Meaning) (cs : List Call) (z : End) (x : Answer) (xs : List Answer) →
    Stepped c m k x → Plainly (missed x) k n cs z xs → Plainly w m n (c ∷ cs) z (x ∷ xs)
plainly_more w c m k n cs z x xs t i =
    let e = t.list in
    let f = t.said in
    record { said = rw (f, ← e) (ap (λ v. reply c m.pairs ∷ v) i.said); list = rw (← e) i.list; ready = i.ready }

-- legal by its own answers
pub plainly : (w : Bool) (m n : Meaning) (cs : List Call) (z : End) (xs : List Answer) → Ready w m → Runs m cs z xs n → LegalFrom w cs z xs → Plainly w m n cs z xs
plainly w m n [] z xs s r h = plainly_none w m n z xs s r h
plainly w m n (c ∷ cs) z [] s r h = elim r [ ]
plainly w m n (c ∷ cs) z (x ∷ xs) s r h =
    let t = step w c m r.0 x h.0 s r.1 in
    plainly_more w c m r.0 n cs z x xs t (plainly (missed x) r.0 n cs z xs t.ready r.2 h.1)

-- legal by the plain list's answers
pub plainly_on : (w : Bool) (m n : Meaning) (cs : List Call) (z : End) (xs : List Answer) → Ready w m → Runs m cs z xs n → LegalFrom w cs z (log m.pairs cs z) → Plainly w m n cs z xs
plainly_on w m n [] z xs s r h = plainly_none w m n z xs s r h
plainly_on w m n (c ∷ cs) z [] s r h = elim r [ ]
plainly_on w m n (c ∷ cs) z (x ∷ xs) s r h =
    let t = step w c m r.0 x h.0 s r.1 in
    let e = t.list in
    let f = t.said in
    plainly_more w c m r.0 n cs z x xs t (plainly_on (missed x) r.0 n cs z xs t.ready r.2 (rw (f, e) h.1))

pub replayed : (m n : Meaning) (cs : List Call) (z : End) (xs : List Answer) → Runs m cs z xs n → Replayed m n cs z xs
replayed m n cs z xs r =
    record {
      runs = r;
      answers = λ s h. (plainly_on false m n cs z xs s r h).said;
      lists = λ s h. (plainly_on false m n cs z xs s r h).list;
      stays = λ s h e. subst (λ (b : Bool). Ready b n) e (plainly_on false m n cs z xs s r h).ready;
    }

-- ---- longer runs

one_more : (m k n : Meaning) (cs : List Call) (xs : List Answer) (c : Call) (x : Answer) → Runs m cs ongoing xs k → Promise c k n x → Runs m (cs ++ c ∷ []) ongoing (xs ++ x ∷ []) n
one_more m k n [] xs c x r p = let e = r.1 in rw e (n, rw r.0 at p, (refl, refl))
one_more m k n (d ∷ ds) [] c x r p = elim r [ ]
one_more m k n (d ∷ ds) (y ∷ ys) c x r p = (r.0, r.1, one_more r.0 k n ds ys c x r.2 p)

pub runs_more : (m k n : Meaning) (cs : List Call) (i : ℕ) (d : Call) (xs zs : List Answer) (x : Answer) → i < length cs → zs ≡ xs ++ x ∷ [] →
    Runs m (take i cs) ongoing xs k → Promise (get_or cs i d) k n x → Runs m (take (i + 1) cs) ongoing zs n
runs_more m k n cs i d xs zs x h e r p =
    let t = take_more cs i d h in
    rw (t, e) (one_more m k n (take i cs) xs (get_or cs i d) x r p)

pub runs_end : (m n : Meaning) (cs : List Call) (z : End) (xs ys : List Answer) → Runs m cs ongoing xs n → Ended z n ys → Runs m cs z (xs ++ ys) n
runs_end m n [] z xs ys r e = let f = r.1 in rw f (r.0, rw r.0 at e)
runs_end m n (c ∷ cs) z [] ys r e = elim r [ ]
runs_end m n (c ∷ cs) z (x ∷ xs) ys r e = (r.0, r.1, runs_end r.0 n cs z xs ys r.2 e)

-- ---- the plain list keeps all promises itself

first_small : (ps : List Pair) → Rising 0 ps → first_id ps ≤ TERM
first_small [] h = omega arith
first_small (p ∷ ps) h = omega (arith, h.1)

rest_shrinks : (ps : List Pair) → length (rest ps) ≤ length ps
rest_shrinks [] = omega arith
rest_shrinks (p ∷ ps) = omega arith

rest_drops : (ps : List Pair) → (length (rest ps) < length ps) ⊎ (first_id (rest ps) ≡ TERM)
rest_drops [] = inr refl
rest_drops (p ∷ ps) = inl (omega arith)

probed_shrinks : (t : ℕ) (ps : List Pair) → length (probed t ps) ≤ length ps
probed_shrinks t ps =
    elim (ltb t TERM) as (λ (b : Bool). length (cond b (from t ps) ps) ≤ length ps) [
      | true ↦ from_shorter t ps
      | false ↦ omega arith
    ]

rising_probed : (t : ℕ) (ps : List Pair) → Rising 0 ps → Rising 0 (probed t ps)
rising_probed t ps h =
    elim (ltb t TERM) as (λ (b : Bool). Rising 0 (cond b (from t ps) ps)) [
      | true ↦ rising_from t 0 ps h
      | false ↦ h
    ]

rising_drop : (k : ℕ) (ps : List Pair) → Rising 0 ps → Rising 0 (drop k ps)
rising_drop zero ps h = h
rising_drop (suc k) [] h = tt
rising_drop (suc k) (p ∷ ps) h = rising_drop k ps (rising_rest (p ∷ ps) h)

rising_after : (c : Call) (ps : List Pair) → Rising 0 ps → Rising 0 (after c ps)
rising_after Doc ps h = h
rising_after Score ps h = h
rising_after Advance ps h = rising_rest ps h
rising_after (Seek t) ps h = rising_from t 0 ps h
rising_after (Probe t) ps h = rising_probed t ps h
rising_after (Block b) ps h = rising_drop 64 ps h

plain_probe : (t : ℕ) (ps qs : List Pair) (b : Bool) → b ≡ has t ps → qs ≡ probed t ps → Promise (Probe t) (calm ps) (calm qs) (hit b)
plain_probe t ps qs true e f = (
  Found,
  refl,
  record {
    an_id = tt;
    shrinks = subst (λ (x : List Pair). length x ≤ length ps) (sym f) (probed_shrinks t ps);
    answers = λ _. record { tells = e; leaves = f; marks = refl; bounds = tt };
  },
)
plain_probe t ps qs false e f = (
  SeekLowerBound TERM,
  refl,
  record {
    an_id = omega arith;
    shrinks = subst (λ (x : List Pair). length x ≤ length ps) (sym f) (probed_shrinks t ps);
    answers = λ _. record { tells = e; leaves = f; marks = tt; bounds = inl refl };
  },
)

plain_promise : (c : Call) (ps : List Pair) → Rising 0 ps → Promise c (calm ps) (calm (after c ps)) (reply c ps)
plain_promise Doc ps h = (first_id ps, refl, refl, record { an_id = first_small ps h; rises = λ _. h; tells = λ _. refl })
plain_promise Score ps h = (first_score ps, refl, record { shrinks = omega arith; same = λ _. refl; tells = λ _. refl })
plain_promise Advance ps h = (
  first_id (rest ps),
  refl,
  record {
    an_id = first_small (rest ps) (rising_rest ps h);
    shrinks = rest_shrinks ps;
    drops = rest_drops ps;
    becomes = λ _. refl;
    tells = λ _. refl;
  },
)
plain_promise (Seek t) ps h = (
  first_id (from t ps),
  refl,
  record {
    an_id = first_small (from t ps) (rising_from t 0 ps h);
    shrinks = from_shorter t ps;
    becomes = λ _. refl;
    tells = λ _. refl;
  },
)
plain_promise (Probe t) ps h = plain_probe t ps (probed t ps) (has t ps) refl refl
plain_promise (Block b) ps h = (
  length (take 64 ps),
  take 64 (ids ps) ++ drop (length (take 64 ps)) b,
  refl,
  record {
    at_most = omega (arith, length-take 64 ps);
    shrinks = omega (arith, length-drop 64 ps);
    becomes = λ _. refl;
    writes = λ _. refl;
    tells = λ _. refl;
  },
)

plain_end : (z : End) (ps : List Pair) → Ended z (calm ps) (close z ps)
plain_end ongoing ps = refl
plain_end (counted ws) ps = (_, refl, record { tells = λ _. refl })
plain_end counted_all ps = (_, refl, record { tells = λ _. refl })

plain_runs : (ps : List Pair) (cs : List Call) (z : End) → Rising 0 ps → Runs (calm ps) cs z (log ps cs z) (calm (left ps cs))
plain_runs ps [] z h = (refl, plain_end z ps)
plain_runs ps (c ∷ cs) z h = (calm (after c ps), plain_promise c ps h, plain_runs (after c ps) cs z (rising_after c ps h))

-- ---- logs tell lists apart

agree_rest : (p q : Pair) (ps qs : List Pair) → SameTold (log (p ∷ ps)) (log (q ∷ qs)) → SameTold (log ps) (log qs)
agree_rest p q ps qs h cs z w u v = let e = h (Advance ∷ cs) z (tt, w) (tt, u) (tt, v) in cc

agree_equal : (ps qs : List Pair) → Rising 0 ps → Rising 0 qs → SameTold (log ps) (log qs) → ps ≡ qs
agree_equal [] [] a b h = refl
agree_equal [] (q ∷ qs) a b h =
    let e = h (Doc ∷ []) ongoing (tt, tt) (tt, tt) (tt, tt) in
    let f : TERM ≡ q.id = cc in
    absurd (omega (arith, b.1))
agree_equal (p ∷ ps) [] a b h =
    let e = h (Doc ∷ []) ongoing (tt, tt) (tt, tt) (tt, tt) in
    let f : p.id ≡ TERM = cc in
    absurd (omega (arith, a.1))
agree_equal (p ∷ ps) (q ∷ qs) a b h =
    let e = h (Doc ∷ []) ongoing (tt, tt) (tt, tt) (tt, tt) in
    let f = h (Score ∷ []) ongoing (tt, tt) (tt, tt) (tt, tt) in
    let i : p.id ≡ q.id = cc in
    let j : p.score ≡ q.score = cc in
    let k = agree_equal ps qs (rising_rest (p ∷ ps) a) (rising_rest (q ∷ qs) b) (agree_rest p q ps qs h) in
    let g : p ≡ q = rw (i, j) in
    cc

module _ (m n : Meaning) (s : Steady m) (t : Steady n) (a : Rising 0 m.pairs) (b : Rising 0 n.pairs) where
  told_lists : (f g : List Call → End → List Answer) → Tells m f → Tells n g → SameTold f g → m.pairs ≡ n.pairs
  told_lists f g x y h =
      agree_equal m.pairs n.pairs a b
      (λ cs z w u v.
      let i = (plainly_on false m (x cs z w).0 cs z (f cs z) s (x cs z w).1 u).said in
      let j = (plainly_on false n (y cs z w).0 cs z (g cs z) t (y cs z w).1 v).said in
      sym i ∙ h cs z w (rw i u) (rw j v) ∙ j)

  same_lists : m.pairs ≡ n.pairs → SameLogs m n
  same_lists e cs z xs ys i j w r q u v =
      (plainly false m i cs z xs s r u).said ∙ ap (λ (l : List Pair). log l cs z) e ∙ sym (plainly false n j cs z ys t q v).said

  plain_tells : (k : Meaning) → Steady k → Rising 0 k.pairs → Tells k (log k.pairs)
  plain_tells k x y cs z w =
      (calm (left k.pairs cs), subst (λ (o : Meaning). Runs o cs z (log k.pairs cs z) (calm (left k.pairs cs))) (sym (itself k x)) (plain_runs k.pairs cs z y))

  pub told_apart : ToldApart m n
  told_apart =
      record {
        promised = (
          (λ h.
              let x = plain_tells m s a in
              let y = plain_tells n t b in
              told_lists (log m.pairs) (log n.pairs) x y
              (λ cs z w u v. h cs z (log m.pairs cs z) (log n.pairs cs z) (x cs z w).0 (y cs z w).0 w (x cs z w).1 (y cs z w).1 u v)),
          same_lists,
        );
        told = λ f g x y. (
          told_lists f g x y,
          (λ e cs z w u v. same_lists e cs z (f cs z) (g cs z) (x cs z w).0 (y cs z w).0 w (x cs z w).1 (y cs z w).1 u v),
        );
      }

pub replayed_end :
    (m n : Meaning) (cs : List Call) (z : End) (xs ys zs : List Answer) → Replayed m n cs ongoing xs →
    zs ≡ xs ++ ys → Ended z n ys → Replayed m n cs z zs
replayed_end m n cs z xs ys zs h e k = replayed m n cs z zs (rw e (runs_end m n cs z xs ys h.runs k))
