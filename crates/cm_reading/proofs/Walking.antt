-- Looking for members by one walk over those of an object.
use Rattle.std.proofs.Common.{◌≡◌, ℕ, suc, ◌+◌, ◌<◌, List, [], ◌∷◌, ◌++◌, map, take, drop, length, set, get_or, arith, Bool, true, false, cond, Option, Some, None, option_and_then, is_some, String, Global, string_bytes, string_cmp, Less, refl, sym, ap, ◌∙◌, subst, true≢false}
use Rattle.std.proofs.lemmas.List.{length-map, get_or-map, map-set, map-id, set-get_or}
use Rattle.std.proofs.lemmas.List.Edits.{map_over_more}
use Rattle.std.proofs.lemmas.Slice.Eq.{bytes_eq-Decides}
use Rattle.std.specs.List.{AllByRecursion}
use Rattle.std.specs.List.Sorted.{IsStrictlySortedBy}
use Rattle.std.specs.Map.{keys_of}
use Rattle.std.specs.Str.{bytes_eq}
use Rattle.serde_json.specs.Data.{Data, Members, null, boolean, number, string, array, object}
use Rattle.serde_json.specs.Find.{as_null, as_object, get, get_member}
use Rattle.serde_json.specs.View.{view, members_view}
use Rattle.serde_json.proofs.Views.{Entry, member_here, member_later}
use Rattle.cm_reading.specs.declared.member.Member.{Member}
use Rattle.cm_envelope.specs.Member.{NamedMember, unless_null}
use Rattle.cm_reading.specs.Members.{value_of, as_named, with_value, or_before, looked_for, AreFound}
use Rattle.cm_reading.proofs.Judged.{absent}

-- once this member of the object is passed
abbrev pub past : Entry → NamedMember → NamedMember
past e m = cond (is_some (as_null (view e.1))) m (with_value (string_bytes e.0) (view e.1) m)

-- once these are
abbrev pub past_all : List Entry → NamedMember → NamedMember
past_all [] m = m
past_all (e ∷ es) m = past_all es (past e m)

abbrev the_same : List ℕ → Option Data → NamedMember
the_same name d = (name, d)

abbrev looked_at : List ℕ → Option Data → Option Data → NamedMember
looked_at name before d = (name, or_before d before)

-- what is found of a member of this name
abbrev pub found : List Entry → List ℕ → Option Data
found es name = option_and_then unless_null (get_member name (members_view es))

-- nothing changes at another name
apart : (e : Entry) (name : List ℕ) (d : Option Data) → bytes_eq name (string_bytes e.0) ≡ false → past e (name, d) ≡ (name, d)
apart e name d t = rw t (same (is_some (as_null (view e.1))))
  where
    same : (b : Bool) → cond b (name, d) (name, d) ≡ the_same name d
    same true = refl
    same false = refl

-- none of the members has this name
kept : (name : List ℕ) (d : Option Data) (k : String Global) (es : List Entry) → name ≡ string_bytes k → AllByRecursion (λ y. string_cmp k y ≡ Less) (keys_of es) → past_all es (name, d) ≡ (name, d)
kept name d k [] is below = refl
kept name d k (e ∷ es) is below = ap (past_all es) (apart e name d (other (bytes_eq name (string_bytes e.0)) refl)) ∙ kept name d k es is below.1
  where
    none : None ≡ Some (view e.1) → ⊥
    none e = cc

    other : (b : Bool) → bytes_eq name (string_bytes e.0) ≡ b → bytes_eq name (string_bytes e.0) ≡ false
    other true t = absurd (none (sym (ap (λ n. get_member n (members_view (e ∷ []))) is ∙ absent k (e ∷ []) (below.0, tt)) ∙ member_here name e [] ((bytes_eq-Decides name (string_bytes e.0)).0 t)))
    other false t = t

-- each name is found, or none has it
pub found_by_walk : (name : List ℕ) (before : Option Data) (es : List Entry) → IsStrictlySortedBy string_cmp (keys_of es) → past_all es (name, before) ≡ looked_at name before (found es name)
unfolding IsStrictlySortedBy
found_by_walk name before [] sorted = nothing before
  where
    nothing : (before : Option Data) → the_same name before ≡ looked_at name before None
    nothing None = refl
    nothing (Some d) = refl
found_by_walk name before (e ∷ es) sorted = go (bytes_eq name (string_bytes e.0)) refl (is_some (as_null (view e.1))) refl (found_by_walk name before es sorted.1)
  where
    go : (b : Bool) → bytes_eq name (string_bytes e.0) ≡ b → (n : Bool) → is_some (as_null (view e.1)) ≡ n
        → past_all es (name, before) ≡ looked_at name before (found es name) → past_all es (past e (name, before)) ≡ looked_at name before (found (e ∷ es) name)
    go true t n is_null rest =
        let same = (bytes_eq-Decides name (string_bytes e.0)).0 t in
        ap (past_all es) (rw (is_null, t) (here n before)) ∙ kept name _ e.0 es same sorted.0
        ∙ ap (looked_at name before) (sym (ap (option_and_then unless_null) (member_here name e es same) ∙ ap (λ b. cond b None (Some (view e.1))) is_null))
      where
        here : (n : Bool) (before : Option Data) → cond n (name, before) (name, Some (view e.1)) ≡ looked_at name before (cond n None (Some (view e.1)))
        here true None = refl
        here true (Some d) = refl
        here false None = refl
        here false (Some d) = refl
    go false t n is_null rest =
        ap (past_all es) (apart e name before t) ∙ rest
        ∙ ap (λ d. looked_at name before (option_and_then unless_null d)) (sym (member_later name e es (λ same. true≢false (sym ((bytes_eq-Decides name (string_bytes e.0)).1 same) ∙ t))))

-- ---- the members of a value

get_of_object : (d : Data) (ms : Members) → as_object d ≡ Some ms → (name : List ℕ) → get name d ≡ get_member name ms
get_of_object null ms is name = absurd cc
get_of_object (boolean b) ms is name = absurd cc
get_of_object (number n) ms is name = absurd cc
get_of_object (string s) ms is name = absurd cc
get_of_object (array ds) ms is name = absurd cc
get_of_object (object ns) ms is name = let same : ns ≡ ms = cc in ap (get_member name) same

get_of_none : (d : Data) → as_object d ≡ None → (name : List ℕ) → get name d ≡ None
get_of_none null is name = refl
get_of_none (boolean b) is name = refl
get_of_none (number n) is name = refl
get_of_none (string s) is name = refl
get_of_none (array ds) is name = refl
get_of_none (object ns) is name = absurd cc

same_maps : (f g : NamedMember → NamedMember) → ((m : NamedMember) → f m ≡ g m) → (ms : List NamedMember) → map f ms ≡ map g ms
same_maps f g same [] = refl
same_maps f g same (m ∷ ms) = let rest = same_maps f g same ms in λ i. same m i ∷ rest i

-- ---- member by member

pub walk_starts : (d : Data) (es : List Entry) → as_object d ≡ Some (members_view es) → IsStrictlySortedBy string_cmp (keys_of es) → (ms : List NamedMember) → map (past_all es) ms ≡ map (looked_for d) ms
walk_starts d es is sorted ms = same_maps _ _ (λ m. found_by_walk m.0 m.1 es sorted ∙ ap (λ o. looked_at m.0 m.1 (option_and_then unless_null o)) (sym (get_of_object d (members_view es) is m.0))) ms

pub nothing_found : (d : Data) → as_object d ≡ None → (ms : List NamedMember) → ms ≡ map (looked_for d) ms
nothing_found d is ms = sym (map-id ms) ∙ same_maps _ _ (λ m. kept_before m.0 m.1 ∙ ap (λ o. looked_at m.0 m.1 (option_and_then unless_null o)) (sym (get_of_none d is m.0))) ms
  where
    kept_before : (name : List ℕ) (before : Option Data) → the_same name before ≡ looked_at name before None
    kept_before name None = refl
    kept_before name (Some d) = refl

module _ (es : List Entry) (ms : List NamedMember) (total : List NamedMember) (so_far : map (past_all es) ms ≡ total) where
  pub walk_goes_on : (e : Entry) (rest : List Entry) (new : List NamedMember) → es ≡ e ∷ rest → is_some (as_null (view e.1)) ≡ false → new ≡ map (with_value (string_bytes e.0) (view e.1)) ms → map (past_all rest) new ≡ total
  walk_goes_on e rest new is not_null noted_all = ap (map (past_all rest)) noted_all ∙ go ms ∙ sym (ap (λ es. map (past_all es) ms) is) ∙ so_far
    where
      go : (ms : List NamedMember) → map (past_all rest) (map (with_value (string_bytes e.0) (view e.1)) ms) ≡ map (past_all (e ∷ rest)) ms
      go [] = refl
      go (m ∷ ms) = let first = ap (λ b. past_all rest (cond b m (with_value (string_bytes e.0) (view e.1) m))) (sym not_null) in let others = go ms in λ i. first i ∷ others i

  pub walk_ends : es ≡ [] → ms ≡ total
  walk_ends none = sym (map-id ms) ∙ sym (ap (λ es. map (past_all es) ms) none) ∙ so_far

-- ---- one of the members more is noted

module _ (name : List ℕ) (d : Data) (old ms : List Member) (i : ℕ) (x : Member) (within : i < length ms) (long : length ms ≡ length old) (so_far : map as_named ms ≡ map (with_value name d) (take i (map as_named old)) ++ drop i (map as_named old)) (read : x ≡ get_or ms i x) where
  one_more : set (map as_named ms) i (with_value name d (as_named x)) ≡ map (with_value name d) (take (i + 1) (map as_named old)) ++ drop (i + 1) (map as_named old)
  one_more =
      let within_old : i < length (map as_named old) = omega (arith, length-map old as_named) in
      map_over_more (with_value name d) (map as_named old) (map as_named ms) i (as_named x) within_old so_far (ap as_named read ∙ sym (get_or-map as_named ms i x (as_named x) within))

  pub noted_here : (new : Member) → bytes_eq x.name.now name ≡ true → new.name ≡ x.name → value_of new ≡ Some d → map as_named (set ms i new) ≡ map (with_value name d) (take (i + 1) (map as_named old)) ++ drop (i + 1) (map as_named old)
  noted_here new t same_name value = map-set as_named ms i new ∙ ap (set (map as_named ms) i) new_is ∙ one_more
    where
      new_is : as_named new ≡ with_value name d (as_named x)
      new_is = rw t (pair same_name value)
        where
          pair : new.name ≡ x.name → value_of new ≡ Some d → as_named new ≡ the_same x.name.now (Some d)
          pair n v = λ i. ((n i).now, v i)

  pub not_noted : bytes_eq x.name.now name ≡ false → map as_named ms ≡ map (with_value name d) (take (i + 1) (map as_named old)) ++ drop (i + 1) (map as_named old)
  not_noted t = sym (set-get_or (map as_named ms) i (as_named x)) ∙ ap (set (map as_named ms) i) (get_or-map as_named ms i x (as_named x) within ∙ ap as_named (sym read) ∙ stays) ∙ one_more
    where
      stays : as_named x ≡ with_value name d (as_named x)
      stays = rw t

-- ---- what was found of each

module _ (ms : List Member) (ns : List NamedMember) (is : map as_named ms ≡ ns) where
  pub nth : (i : ℕ) (x : Member) → i < length ns → as_named (get_or ms i x) ≡ get_or ns i (as_named x)
  nth i x h =
      let within : i < length ms = omega (arith, length-map ms as_named, ap length is) in
      sym (get_or-map as_named ms i x (as_named x) within) ∙ ap (λ l. get_or l i (as_named x)) is

each_found : (d : Data) (new : List Member) (at : ℕ) (old : List Member) → ((j : ℕ) (x y : Member) → j < length old → as_named (get_or new (at + j) x) ≡ looked_for d (as_named (get_or old j y))) → AreFound d new at old
each_found d new at [] h = tt
each_found d new at (m ∷ ms) h =
    let here : at + 0 ≡ at = omega arith in (
      (λ x. subst (λ k. as_named (get_or new k x) ≡ looked_for d (as_named m)) here (h 0 x m (omega arith))),
      each_found d new (at + 1) ms (λ j x y l. let later : at + suc j ≡ at + 1 + j = omega arith in subst (λ k. as_named (get_or new k x) ≡ looked_for d (as_named (get_or ms j y))) later (h (suc j) x y (omega arith))),
    )

pub all_found : (d : Data) (old new : List Member) → map as_named new ≡ map (looked_for d) (map as_named old) → AreFound d new 0 old
all_found d old new is =
    each_found d new 0 old
    (λ j x y l. let here : j ≡ 0 + j = omega arith in subst (λ k. as_named (get_or new k x) ≡ looked_for d (as_named (get_or old j y))) here (go j x y l))
  where
    go : (j : ℕ) (x y : Member) → j < length old → as_named (get_or new j x) ≡ looked_for d (as_named (get_or old j y))
    go j x y l =
        let within : j < length (map as_named old) = omega (arith, length-map old as_named) in
        nth new _ is j x (omega (arith, length-map (map as_named old) (looked_for d), length-map old as_named))
        ∙ get_or-map (looked_for d) (map as_named old) j (as_named y) (as_named x) within
        ∙ ap (looked_for d) (get_or-map as_named old j y (as_named y) l)
