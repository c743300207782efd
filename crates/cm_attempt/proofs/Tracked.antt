-- What the calls so far say, against the rows of the table that they left.
use Rattle.std.proofs.Common.{◌≡◌, refl, sym, ap, ◌∙◌, subst, List, [], ◌∷◌, ◌++◌, Option, Some, None, true, false, Bool, length, map, append-nil}
use Rattle.std.specs.Prelude.{find, unwrap_or, option_map, filter}
use Rattle.std.specs.List.{AllByRecursion}
use Rattle.std.specs.Str.{bytes_eq}
use Rattle.std.proofs.lemmas.List.Elements.{filter_map-append, filter-append}
use Rattle.std.proofs.lemmas.List.Folds.{find-append}
use Rattle.cm_attempt.specs.Table.{Utf8, CaseRow, AttemptRow, Table, has_repeat, find_case, find_attempt, change_first}
use Rattle.cm_attempt.specs.Worst.{worst_so_far, worst_of}
use Rattle.cm_attempt.specs.declared.status.Status.{Status}
use Rattle.cm_attempt.specs.declared.track.Cursor.{Cursor}
use Rattle.cm_attempt.specs.declared.track.Last.{Last}
use Rattle.cm_attempt.specs.declared.track.Last.TheVariants as last
use Rattle.cm_attempt.specs.Calls.{Call, DeclaredCase, StartedAttempt, as_case, as_start, cases, starts, declared_case, start_of, starts_of, Move, move_of, moves, retry_in, ends_of, status_in, statuses}
use Rattle.cm_attempt.proofs.Growing.{by_id, found_more, all_weaker, still_found, found_changed, found_elsewhere}
use Rattle.cm_attempt.proofs.Standing.{Stands}

abbrev pub is_of : Utf8 → StartedAttempt → Bool
is_of a s = bytes_eq a s.id

-- ---- an attempt

pub record Unstarted (calls : List Call) (a : Utf8) : Type 0 where
  pub start : start_of a calls ≡ None
  pub moves : moves a calls ≡ []
  pub ends : ends_of a calls ≡ []
  pub statuses : statuses a calls ≡ []

-- an attempt with this row
pub record Begun (calls : List Call) (t : Table) (a : Utf8) (row : AttemptRow) : Type 0 where
  pub start : StartedAttempt
  pub its_case : CaseRow
  pub is_start : start_of a calls ≡ Some start
  pub of_case : row.case_id ≡ start.case_id
  pub has_case : find_case t start.case_id ≡ Some its_case
  pub stands : Stands its_case.steps (moves a calls) (ends_of a calls) row.cursor
  pub worst : row.worst ≡ worst_so_far (statuses a calls)

pub data AttemptIs (calls : List Call) (t : Table) (a : Utf8) : Type 0 where
  unstarted : find_attempt t a ≡ None → Unstarted calls a → AttemptIs calls t a
  begun : (row : AttemptRow) → find_attempt t a ≡ Some row → Begun calls t a row → AttemptIs calls t a

pub begun_of : (calls : List Call) (t : Table) (a : Utf8) (row : AttemptRow) → AttemptIs calls t a → find_attempt t a ≡ Some row → Begun calls t a row
begun_of calls t a row (unstarted n u) e = let no : None ≡ Some row = sym n ∙ e in cc
begun_of calls t a row (begun other f b) e = subst (Begun calls t a) (ap (λ o. unwrap_or o row) (sym f ∙ e)) b

pub new_of : (calls : List Call) (t : Table) (a : Utf8) → AttemptIs calls t a → find_attempt t a ≡ None → Unstarted calls a
new_of calls t a (unstarted n u) e = u
new_of calls t a (begun row f b) e = let no : Some row ≡ None = sym f ∙ e in cc

-- ---- a case

-- the attempt is finished, once, and will be retried
abbrev pub Retried : List Call → StartedAttempt → Type 0
Retried calls s = ends_of s.id calls ≡ true ∷ []

-- how an attempt that ended leaves its case
abbrev pub left_as : Bool → Status → Last
left_as true worst = last.Retried worst
left_as false worst = last.Final worst

-- how these attempts of a case are, by the state of the last
pub data Latest (calls : List Call) (case : Utf8) (ss : List StartedAttempt) (l : Last) : Type 0 where
  none_yet : ss ≡ [] → l ≡ last.NotStarted → Latest calls case ss l
  one_open : (front : List StartedAttempt) (s : StartedAttempt) → ss ≡ front ++ s ∷ [] → AllByRecursion (Retried calls) front → start_of s.id calls ≡ Some s → s.case_id ≡ case → ends_of s.id calls ≡ [] → l ≡ last.Open → Latest calls case ss l
  last_over : (front : List StartedAttempt) (s : StartedAttempt) (r : Bool) → ss ≡ front ++ s ∷ [] → AllByRecursion (Retried calls) front → ends_of s.id calls ≡ r ∷ [] → l ≡ left_as r (worst_of (statuses s.id calls)) → Latest calls case ss l

pub record Undeclared (calls : List Call) (case : Utf8) : Type 0 where
  pub no_case : declared_case case calls ≡ None
  pub no_start : starts_of case calls ≡ []

-- a case with this row
pub record Known (calls : List Call) (case : Utf8) (row : CaseRow) : Type 0 where
  pub found : DeclaredCase
  pub is_declared : declared_case case calls ≡ Some found
  pub steps : row.steps ≡ found.steps
  pub count : row.attempts ≡ length (starts_of case calls)
  pub latest : Latest calls case (starts_of case calls) row.last

pub data CaseIs (calls : List Call) (t : Table) (case : Utf8) : Type 0 where
  undeclared : find_case t case ≡ None → Undeclared calls case → CaseIs calls t case
  known : (row : CaseRow) → find_case t case ≡ Some row → Known calls case row → CaseIs calls t case

pub known_of : (calls : List Call) (t : Table) (case : Utf8) (row : CaseRow) → CaseIs calls t case → find_case t case ≡ Some row → Known calls case row
known_of calls t case row (undeclared n u) e = let no : None ≡ Some row = sym n ∙ e in cc
known_of calls t case row (known other f k) e = subst (Known calls case) (ap (λ o. unwrap_or o row) (sym f ∙ e)) k

pub undeclared_of : (calls : List Call) (t : Table) (case : Utf8) → CaseIs calls t case → find_case t case ≡ None → Undeclared calls case
undeclared_of calls t case (undeclared n u) e = u
undeclared_of calls t case (known row f k) e = let no : Some row ≡ None = sym f ∙ e in cc

-- ---- all of it

pub record Tracked (calls : List Call) (t : Table) : Type 0 where
  pub of_cases : (case : Utf8) → CaseIs calls t case
  pub of_attempts : (a : Utf8) → AttemptIs calls t a
  pub case_ids : map (λ c. c.id) t.cases ≡ map (λ c. c.id) (cases calls)
  pub attempt_ids : map (λ a. a.id) t.attempts ≡ map (λ s. s.id) (starts calls)
  pub cases_distinct : has_repeat (map (λ c. c.id) t.cases) ≡ false
  pub attempts_distinct : has_repeat (map (λ a. a.id) t.attempts) ≡ false
  pub steps_distinct : AllByRecursion (λ c. has_repeat c.steps ≡ false) (cases calls)

-- ---- one more call that says nothing of an attempt or a case

pub start_still : (a : Utf8) (xs ys : List Call) (s : StartedAttempt) → start_of a xs ≡ Some s → start_of a (xs ++ ys) ≡ Some s
start_still a xs ys s e = ap (find (is_of a)) (filter_map-append as_start xs ys) ∙ still_found (is_of a) (starts xs) (starts ys) s e

pub declared_still : (case : Utf8) (xs ys : List Call) (d : DeclaredCase) → declared_case case xs ≡ Some d → declared_case case (xs ++ ys) ≡ Some d
declared_still case xs ys d e = ap (find (λ c. bytes_eq case c.id)) (filter_map-append as_case xs ys) ∙ still_found (λ c. bytes_eq case c.id) (cases xs) (cases ys) d e

pub start_past : (a : Utf8) (xs ys : List Call) → start_of a xs ≡ None → start_of a ys ≡ None → start_of a (xs ++ ys) ≡ None
start_past a xs ys e f = ap (find (is_of a)) (filter_map-append as_start xs ys) ∙ rw (find-append (is_of a) (starts xs) (starts ys), e, f) refl

pub declared_past : (case : Utf8) (xs ys : List Call) → declared_case case xs ≡ None → declared_case case ys ≡ None → declared_case case (xs ++ ys) ≡ None
declared_past case xs ys e f = ap (find (λ c. bytes_eq case c.id)) (filter_map-append as_case xs ys) ∙ rw (find-append (λ c. bytes_eq case c.id) (cases xs) (cases ys), e, f) refl

pub starts_both : (case : Utf8) (xs ys : List Call) → starts_of case (xs ++ ys) ≡ starts_of case xs ++ starts_of case ys
starts_both case xs ys = ap (filter (λ s. bytes_eq case s.case_id)) (filter_map-append as_start xs ys) ∙ filter-append (λ s. bytes_eq case s.case_id) (starts xs) (starts ys)

pub starts_same : (case : Utf8) (xs : List Call) (c : Call) → starts_of case (c ∷ []) ≡ [] → starts_of case (xs ++ c ∷ []) ≡ starts_of case xs
starts_same case xs c e = starts_both case xs (c ∷ []) ∙ ap (λ ss. starts_of case xs ++ ss) e ∙ append-nil (starts_of case xs)

pub stands_as : (steps u : List Utf8) (ms ns : List Move) (rs qs : List Bool) (o p : Option Cursor) → steps ≡ u → ms ≡ ns → rs ≡ qs → o ≡ p → Stands steps ms rs o → Stands u ns qs p
stands_as steps u ms ns rs qs o p a b c d h = subst (λ z. Stands z ns qs p) a (subst (λ z. Stands steps z qs p) b (subst (λ z. Stands steps ms z p) c (subst (λ z. Stands steps ms rs z) d h)))

-- the cases stay with their steps
abbrev pub KeepsSteps : Table → Table → Type 0
KeepsSteps t u = (case : Utf8) (c : CaseRow) → find_case t case ≡ Some c → (d : CaseRow) × (find_case u case ≡ Some d) × (d.steps ≡ c.steps)

pub keeps_same : (t u : Table) → u.cases ≡ t.cases → KeepsSteps t u
keeps_same t u same case c e = (c, ap (find (λ r. bytes_eq case r.id)) same ∙ e, refl)

pub keeps_changed : (t u : Table) (id : Utf8) (f : CaseRow → CaseRow) → ((c : CaseRow) → (f c).id ≡ c.id) → ((c : CaseRow) → (f c).steps ≡ c.steps) → u.cases ≡ change_first (λ c. bytes_eq id c.id) f t.cases → KeepsSteps t u
keeps_changed t u id f ids steps changed case c e = by_id case id
    (λ k. (c, ap (find (λ r. bytes_eq case r.id)) changed ∙ found_elsewhere (λ r. r.id) f ids case id k t.cases ∙ e, refl))
    (λ k. (f c, ap (find (λ r. bytes_eq case r.id)) (changed ∙ ap (λ z. change_first (λ r. bytes_eq z r.id) f t.cases) (sym k)) ∙ found_changed (λ r. r.id) f ids case t.cases ∙ ap (option_map f) e, steps c))

pub carry_attempt : (xs : List Call) (c : Call) (t u : Table) (a : Utf8) → find_attempt u a ≡ find_attempt t a → KeepsSteps t u → start_of a (c ∷ []) ≡ None → move_of a c ≡ None → retry_in a c ≡ None → status_in a c ≡ None
    → AttemptIs xs t a → AttemptIs (xs ++ c ∷ []) u a
carry_attempt xs c t u a same keeps start move retry status (unstarted n h) =
    unstarted (same ∙ n) (record {
      start = start_past a xs (c ∷ []) h.start start;
      moves = found_more (move_of a) xs c move ∙ h.moves;
      ends = found_more (retry_in a) xs c retry ∙ h.ends;
      statuses = found_more (status_in a) xs c status ∙ h.statuses;
    })
carry_attempt xs c t u a same keeps start move retry status (begun row f b) =
    let k = keeps b.start.case_id b.its_case b.has_case in
    begun row (same ∙ f) (record {
      start = b.start;
      its_case = k.0;
      is_start = start_still a xs (c ∷ []) b.start b.is_start;
      of_case = b.of_case;
      has_case = k.1;
      stands = stands_as b.its_case.steps k.0.steps (moves a xs) (moves a (xs ++ c ∷ [])) (ends_of a xs) (ends_of a (xs ++ c ∷ [])) row.cursor row.cursor (sym k.2) (sym (found_more (move_of a) xs c move)) (sym (found_more (retry_in a) xs c retry)) refl b.stands;
      worst = b.worst ∙ ap worst_so_far (sym (found_more (status_in a) xs c status));
    })

-- the call ends no attempt that has ended and adds no status to it, and ends no open attempt of the case
pub record LeavesLatest (xs : List Call) (c : Call) (case : Utf8) : Type 0 where
  pub ended : (b : Utf8) (r : Bool) → ends_of b xs ≡ r ∷ [] → (retry_in b c ≡ None) × (status_in b c ≡ None)
  pub still_open : (s : StartedAttempt) → start_of s.id xs ≡ Some s → s.case_id ≡ case → ends_of s.id xs ≡ [] → retry_in s.id c ≡ None

pub still_retried : (xs : List Call) (c : Call) → ((b : Utf8) (r : Bool) → ends_of b xs ≡ r ∷ [] → retry_in b c ≡ None) → (ss : List StartedAttempt) → AllByRecursion (Retried xs) ss → AllByRecursion (Retried (xs ++ c ∷ [])) ss
still_retried xs c quiet ss h = all_weaker (Retried xs) (Retried (xs ++ c ∷ [])) (λ s k. found_more (retry_in s.id) xs c (quiet s.id true k) ∙ k) ss h

pub latest_kept : (xs : List Call) (c : Call) (case : Utf8) → LeavesLatest xs c case → (ss : List StartedAttempt) (l : Last) → Latest xs case ss l → Latest (xs ++ c ∷ []) case ss l
latest_kept xs c case q ss l (none_yet a b) = none_yet a b
latest_kept xs c case q ss l (one_open front s cut all st cs none e) =
    one_open front s cut (still_retried xs c (λ b r k. (q.ended b r k).0) front all) (start_still s.id xs (c ∷ []) s st) cs (found_more (retry_in s.id) xs c (q.still_open s st cs none) ∙ none) e
latest_kept xs c case q ss l (last_over front s r cut all ends e) =
    let k = q.ended s.id r ends in
    last_over front s r cut (still_retried xs c (λ b r k. (q.ended b r k).0) front all) (found_more (retry_in s.id) xs c k.0 ∙ ends) (e ∙ ap (λ ws. left_as r (worst_of ws)) (sym (found_more (status_in s.id) xs c k.1)))

pub carry_case : (xs : List Call) (c : Call) (t u : Table) (case : Utf8) → find_case u case ≡ find_case t case → declared_case case (c ∷ []) ≡ None → starts_of case (c ∷ []) ≡ [] → LeavesLatest xs c case → CaseIs xs t case → CaseIs (xs ++ c ∷ []) u case
carry_case xs c t u case same no_case no_start q (undeclared n h) =
    undeclared (same ∙ n) (record {
      no_case = declared_past case xs (c ∷ []) h.no_case no_case;
      no_start = starts_same case xs c no_start ∙ h.no_start;
    })
carry_case xs c t u case same no_case no_start q (known row f k) =
    let these = starts_same case xs c no_start in
    known row (same ∙ f) (record {
      found = k.found;
      is_declared = declared_still case xs (c ∷ []) k.found k.is_declared;
      steps = k.steps;
      count = k.count ∙ ap length (sym these);
      latest = subst (λ ss. Latest (xs ++ c ∷ []) case ss row.last) (sym these) (latest_kept xs c case q (starts_of case xs) row.last k.latest);
    })
