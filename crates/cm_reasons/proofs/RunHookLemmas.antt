-- Which run hooks aren't finished or aren't good, and their lines.
use Rattle.std.proofs.Common.{◌≡◌, ◌∙◌, ap, sym, refl, ◌||◌, Bool, true, false, not, List, [], ◌∷◌, ◌++◌, ℕ, ◌+◌, ◌<◌, append-nil, get_or, length, map, take, Option, None, Some}
use Rattle.std.specs.Prelude.{find, if◌then◌else◌, option_map}
use Rattle.std.specs.List.{filter, filter_map, list_any}
use Rattle.std.specs.Str.{bytes_eq}
use Rattle.std.proofs.lemmas.List.{map-append, take_more}
use Rattle.std.proofs.lemmas.List.Elements.{filter-append, filter_agree}
use Rattle.cm_attempt.specs.Table.{is_good_status}
use Rattle.cm_attempt.specs.declared.status.Policy.{Policy}
use Rattle.cm_attempt.specs.declared.status.Status.{Status}
use Rattle.cm_cases.specs.Firsts.{or_else}
use Rattle.cm_envelope.specs.declared.envelope.Envelope.{Envelope}
use Rattle.cm_envelope.specs.declared.envelope.TestRunHookStarted.{TestRunHookStarted}
use Rattle.cm_stream.proofs.Lists.{find_map, found_more, found_push, map_twice}
use Rattle.cm_stream.specs.References.{if_any, is_hook_finished, run_hook_ends, run_hooks}
use Rattle.cm_stream.specs.Texts.{Utf8}
use Rattle.cm_reasons.specs.Run.{run_hook_end, run_hook_entry, run_listing_of}
use Rattle.cm_reasons.specs.RunKept.{bad_end_in, bad_entry_lines, entry_line, is_finished_in, open_entries}
use Rattle.cm_reasons.specs.RunReasons.{bad_end, bad_hook_line, hook_causes, open_hook_lines, run_hook_line, run_hook_lines}
use Rattle.cm_reasons.specs.declared.run_listing.RunHookEnd.{RunHookEnd}
use Rattle.cm_reasons.specs.declared.run_listing.RunHookEntry.{RunHookEntry}
use Rattle.cm_reasons.specs.declared.run_listing.RunListing.{RunListing}

-- ---- what is kept of a list

any_map : {X Y : Type 0} (p : Y → Bool) (f : X → Y) (xs : List X) → list_any p (map f xs) ≡ list_any (λ x. p (f x)) xs
any_map p f [] = refl
any_map p f (x ∷ xs) = ap (λ b. p (f x) || b) (any_map p f xs)

kept_map : {X Y Z : Type 0} (p : Y → Bool) (f : X → Y) (g : Y → Z) (xs : List X) → map g (filter p (map f xs)) ≡ map (λ x. g (f x)) (filter (λ x. p (f x)) xs)
kept_map p f g [] = refl
kept_map {X} p f g (x ∷ xs) = go (p (f x)) refl (kept_map p f g xs)
  where
    go : (b : Bool) → p (f x) ≡ b → map g (filter p (map f xs)) ≡ map (λ z. g (f z)) (filter (λ z. p (f z)) xs) → map g (filter p (map f (x ∷ xs))) ≡ map (λ z. g (f z)) (filter (λ z. p (f z)) (x ∷ xs))
    go true e rec = rw e (ap (λ zs. g (f x) ∷ zs) rec)
    go false e rec = rw e rec

found_map : {X Y Z : Type 0} (h : Y → Option Z) (f : X → Y) (xs : List X) → filter_map h (map f xs) ≡ filter_map (λ x. h (f x)) xs
found_map h f [] = refl
found_map {X} {Y} {Z} h f (x ∷ xs) = go (h (f x)) refl (found_map h f xs)
  where
    go : (o : Option Z) → h (f x) ≡ o → filter_map h (map f xs) ≡ filter_map (λ z. h (f z)) xs → filter_map h (map f (x ∷ xs)) ≡ filter_map (λ z. h (f z)) (x ∷ xs)
    go None e rec = rw e rec
    go (Some z) e rec = rw e (ap (λ zs. z ∷ zs) rec)

found_same : {X Z : Type 0} (h k : X → Option Z) → ((x : X) → h x ≡ k x) → (xs : List X) → filter_map h xs ≡ filter_map k xs
found_same h k same [] = refl
found_same {X} {Z} h k same (x ∷ xs) = go (k x) (same x) refl (found_same h k same xs)
  where
    go : (o : Option Z) → h x ≡ o → k x ≡ o → filter_map h xs ≡ filter_map k xs → filter_map h (x ∷ xs) ≡ filter_map k (x ∷ xs)
    go None e d rec = rw e (rw d rec)
    go (Some z) e d rec = rw e (rw d (ap (λ zs. z ∷ zs) rec))

-- ---- run hooks that aren't finished

finished_kept : (es : List Envelope) (s : TestRunHookStarted) → not (is_finished_in (run_listing_of es) (run_hook_entry s)) ≡ not (is_hook_finished s.id es)
finished_kept es s = ap not (any_map (λ (e : RunHookEnd). bytes_eq s.id e.run_hook) run_hook_end (run_hook_ends es))

pub open_lines : (l : RunListing) (es : List Envelope) → l ≡ run_listing_of es → map entry_line (open_entries l) ≡ open_hook_lines es
open_lines l es is =
    ap (λ (k : RunListing). map entry_line (open_entries k)) is
    ∙ kept_map (λ h. not (is_finished_in (run_listing_of es) h)) run_hook_entry entry_line (run_hooks es)
    ∙ ap (map run_hook_line) (filter_agree (λ s. not (is_finished_in (run_listing_of es) (run_hook_entry s))) (λ s. not (is_hook_finished s.id es)) (finished_kept es) (run_hooks es))

-- ---- the first run hook with an id

if_any_map : {X Y : Type 0} (f : X → Y) (o : Option X) → if_any (option_map f o) ≡ map f (if_any o)
if_any_map f None = refl
if_any_map f (Some x) = refl

first_lines : (l : RunListing) (es : List Envelope) (id : Utf8) (o : Option RunHookEntry) → l ≡ run_listing_of es → o ≡ find (λ h. bytes_eq id h.id) l.hooks → map entry_line (if_any o) ≡ run_hook_lines id es
first_lines l es id o is e =
    let at = find (λ (s : TestRunHookStarted). bytes_eq id s.id) (run_hooks es) in
    let found = e ∙ ap (λ (k : RunListing). find (λ h. bytes_eq id h.id) k.hooks) is ∙ find_map (λ (h : RunHookEntry). bytes_eq id h.id) run_hook_entry (run_hooks es) in
    ap (λ (q : Option RunHookEntry). map entry_line (if_any q)) found ∙ ap (map entry_line) (if_any_map run_hook_entry at) ∙ map_twice entry_line run_hook_entry (if_any at)

pub first_line : (l : RunListing) (es : List Envelope) (id : Utf8) (o : Option RunHookEntry) → l ≡ run_listing_of es → o ≡ find (λ h. bytes_eq id h.id) l.hooks → (h : RunHookEntry) → o ≡ Some h → entry_line h ∷ [] ≡ run_hook_lines id es
first_line l es id o is e h some = ap (λ (q : Option RunHookEntry). map entry_line (if_any q)) (sym some) ∙ first_lines l es id o is e

pub no_first_line : (l : RunListing) (es : List Envelope) (id : Utf8) (o : Option RunHookEntry) → l ≡ run_listing_of es → o ≡ find (λ h. bytes_eq id h.id) l.hooks → o ≡ None → [] ≡ run_hook_lines id es
no_first_line l es id o is e none = ap (λ (q : Option RunHookEntry). map entry_line (if_any q)) (sym none) ∙ first_lines l es id o is e

-- ---- the first status that isn't good

module _ {X S : Type 0} (p : S → Bool) (q : X → Bool) (st : X → S) where
  hit_here : (x : X) (b : Bool) → q x ≡ b → p (st x) ≡ true → find p (map st (filter q (x ∷ []))) ≡ (if b then Some (st x) else None)
  hit_here x true e hit = rw e (found x hit)
    where
      found : (x : X) → p (st x) ≡ true → find p (st x ∷ []) ≡ Some (st x)
      found x hit = rw hit refl
  hit_here x false e hit = rw e refl

  hit_later : (s : S) (o : Option S) (a b : List S) → find p a ≡ or_else (find p b) o → (c : Bool) → p s ≡ c → find p (s ∷ a) ≡ or_else (find p (s ∷ b)) o
  hit_later s o a b rec true e = rw e refl
  hit_later s o a b rec false e = rw e rec

  push_hit : (xs : List X) (x : X) → p (st x) ≡ true → find p (map st (filter q (xs ++ x ∷ []))) ≡ or_else (find p (map st (filter q xs))) (if q x then Some (st x) else None)
  push_hit [] x hit = hit_here x (q x) refl hit
  push_hit (y ∷ ys) x hit = go (q y) refl (push_hit ys x hit)
    where
      go : (b : Bool) → q y ≡ b → find p (map st (filter q (ys ++ x ∷ []))) ≡ or_else (find p (map st (filter q ys))) (if q x then Some (st x) else None)
          → find p (map st (filter q (y ∷ (ys ++ x ∷ [])))) ≡ or_else (find p (map st (filter q (y ∷ ys)))) (if q x then Some (st x) else None)
      go true e rec = rw e (hit_later (st y) (if q x then Some (st x) else None) (map st (filter q (ys ++ x ∷ []))) (map st (filter q ys)) rec (p (st y)) refl)
      go false e rec = rw e rec

  miss_here : (x : X) (b : Bool) → q x ≡ b → p (st x) ≡ false → find p (map st (filter q (x ∷ []))) ≡ None
  miss_here x true e miss = rw e (missed x miss)
    where
      missed : (x : X) → p (st x) ≡ false → find p (st x ∷ []) ≡ None
      missed x miss = rw miss refl
  miss_here x false e miss = rw e refl

  miss_later : (s : S) (a b : List S) → find p a ≡ find p b → (c : Bool) → p s ≡ c → find p (s ∷ a) ≡ find p (s ∷ b)
  miss_later s a b rec true e = rw e refl
  miss_later s a b rec false e = rw e rec

  push_miss : (xs : List X) (x : X) → p (st x) ≡ false → find p (map st (filter q (xs ++ x ∷ []))) ≡ find p (map st (filter q xs))
  push_miss [] x miss = miss_here x (q x) refl miss
  push_miss (y ∷ ys) x miss = go (q y) refl (push_miss ys x miss)
    where
      go : (b : Bool) → q y ≡ b → find p (map st (filter q (ys ++ x ∷ []))) ≡ find p (map st (filter q ys)) → find p (map st (filter q (y ∷ (ys ++ x ∷ [])))) ≡ find p (map st (filter q (y ∷ ys)))
      go true e rec = rw e (miss_later (st y) (map st (filter q (ys ++ x ∷ []))) (map st (filter q ys)) rec (p (st y)) refl)
      go false e rec = rw e rec

pub bad_push : (policy : Policy) (ends : List RunHookEnd) (e : RunHookEnd) (id : Utf8) → is_good_status policy e.status ≡ false
    → bad_end_in policy (ends ++ e ∷ []) id ≡ or_else (bad_end_in policy ends id) (if bytes_eq id e.run_hook then Some e.status else None)
bad_push policy ends e id bad = push_hit (λ status. not (is_good_status policy status)) (λ (x : RunHookEnd). bytes_eq id x.run_hook) (λ x. x.status) ends e (ap not bad)

pub good_push : (policy : Policy) (ends : List RunHookEnd) (e : RunHookEnd) (id : Utf8) → is_good_status policy e.status ≡ true → bad_end_in policy (ends ++ e ∷ []) id ≡ bad_end_in policy ends id
good_push policy ends e id good = push_miss (λ status. not (is_good_status policy status)) (λ (x : RunHookEnd). bytes_eq id x.run_hook) (λ x. x.status) ends e (ap not good)

-- ---- the lines of run hooks that aren't good

bad_kept : (policy : Policy) (es : List Envelope) (s : TestRunHookStarted) → bad_end_in policy (run_listing_of es).ends s.id ≡ bad_end policy es s
bad_kept policy es s =
    ap (find (λ status. not (is_good_status policy status)))
    (kept_map (λ (e : RunHookEnd). bytes_eq s.id e.run_hook) run_hook_end (λ e. e.status) (run_hook_ends es))

pub cause_lines : (policy : Policy) (l : RunListing) (es : List Envelope) → l ≡ run_listing_of es → bad_entry_lines policy l.ends l.hooks ≡ hook_causes policy es
cause_lines policy l es is =
    ap (λ (k : RunListing). bad_entry_lines policy k.ends k.hooks) is
    ∙ found_map (λ h. option_map (bad_hook_line h.hook_id) (bad_end_in policy (run_listing_of es).ends h.id)) run_hook_entry (run_hooks es)
    ∙ found_same (λ s. option_map (bad_hook_line s.hook_id) (bad_end_in policy (run_listing_of es).ends s.id)) (λ s. option_map (bad_hook_line s.hook_id) (bad_end policy es s))
    (λ s. ap (option_map (bad_hook_line s.hook_id)) (bad_kept policy es s)) (run_hooks es)

-- ---- one element more in a loop

one_more : {X : Type 0} (xs : List X) (i : ℕ) (x : X) → i < length xs → x ≡ get_or xs i x → take (i + 1) xs ≡ take i xs ++ x ∷ []
one_more xs i x l at = take_more xs i x l ∙ ap (λ y. take i xs ++ y ∷ []) (sym at)

module _ {V X : Type 0} (seen : V → X) (p : X → Bool) (xs : List X) (i : ℕ) (x : X) (old : List V) (l : i < length xs) (at : x ≡ get_or xs i x) (so_far : map seen old ≡ filter p (take i xs)) where
  pub kept_one : (new : List V) (v : V) → new ≡ old ++ v ∷ [] → seen v ≡ x → p x ≡ true → map seen new ≡ filter p (take (i + 1) xs)
  kept_one new v n is passes =
      let last : filter p (x ∷ []) ≡ x ∷ [] = rw passes refl in
      ap (map seen) n ∙ map-append seen old (v ∷ []) ∙ (λ j. so_far j ++ is j ∷ [])
      ∙ ap (λ ys. filter p (take i xs) ++ ys) (sym last) ∙ sym (filter-append p (take i xs) (x ∷ [])) ∙ ap (filter p) (sym (one_more xs i x l at))

  pub kept_none : p x ≡ false → map seen old ≡ filter p (take (i + 1) xs)
  kept_none fails =
      let last : filter p (x ∷ []) ≡ [] = rw fails refl in
      so_far ∙ sym (append-nil (filter p (take i xs)))
      ∙ ap (λ ys. filter p (take i xs) ++ ys) (sym last) ∙ sym (filter-append p (take i xs) (x ∷ [])) ∙ ap (filter p) (sym (one_more xs i x l at))

module _ {V X Y : Type 0} (seen : V → Y) (h : X → Option Y) (xs : List X) (i : ℕ) (x : X) (old : List V) (l : i < length xs) (at : x ≡ get_or xs i x) (so_far : map seen old ≡ filter_map h (take i xs)) where
  pub found_one : (new : List V) (v : V) → new ≡ old ++ v ∷ [] → h x ≡ Some (seen v) → map seen new ≡ filter_map h (take (i + 1) xs)
  found_one new v n is =
      ap (map seen) n ∙ map-append seen old (v ∷ []) ∙ ap (λ ys. ys ++ seen v ∷ []) so_far
      ∙ sym (found_push h (take i xs) x (seen v) is) ∙ ap (filter_map h) (sym (one_more xs i x l at))

  pub found_none : h x ≡ None → map seen old ≡ filter_map h (take (i + 1) xs)
  found_none is = so_far ∙ sym (found_more h (take i xs) x is) ∙ ap (filter_map h) (sym (one_more xs i x l at))

module _ (policy : Policy) (ends : List RunHookEnd) (i : ℕ) (e : RunHookEnd) (id : Utf8) (old : Option Status) (l : i < length ends) (at : e ≡ get_or ends i e) (so_far : old ≡ bad_end_in policy (take i ends) id) where
  pub bad_one : (new : Option Status) → new ≡ or_else old (if bytes_eq id e.run_hook then Some e.status else None) → is_good_status policy e.status ≡ false → new ≡ bad_end_in policy (take (i + 1) ends) id
  bad_one new n bad =
      n ∙ ap (λ (o : Option Status). or_else o (if bytes_eq id e.run_hook then Some e.status else None)) so_far ∙ sym (bad_push policy (take i ends) e id bad)
      ∙ ap (λ (es : List RunHookEnd). bad_end_in policy es id) (sym (one_more ends i e l at))

  pub good_one : is_good_status policy e.status ≡ true → old ≡ bad_end_in policy (take (i + 1) ends) id
  good_one good = so_far ∙ sym (good_push policy (take i ends) e id good) ∙ ap (λ (es : List RunHookEnd). bad_end_in policy es id) (sym (one_more ends i e l at))
