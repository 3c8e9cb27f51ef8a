-- The committer that a compactor holds, where nobody else acts.
use Rattle.std.proofs.Common.{◌≡◌, ◌≢◌, ◌⊎◌, inl, inr, ℕ, ◌≤◌, List, [], ◌∷◌, ◌++◌, Option, Some, IsSome, IfSome, Ok, Err, refl, sym, ap, ◌∙◌, subst, arith}
use Rattle.std.proofs.lemmas.Option.{IfSome_then}
use Rattle.pm_values.specs.Names.{naming}
use Rattle.pm_values.specs.declared.refusal.Refusal.{Refusal}
use Rattle.pm_values.specs.declared.refusal.Refusal.TheVariants as refusals
use Rattle.pm_store.specs.Answers.{Answers}
use Rattle.pm_store.specs.Files.{Files, after_effect, carried}
use Rattle.pm_store.specs.declared.answer.Answer.{Answer}
use Rattle.pm_store.specs.declared.answer.Answer.TheVariants as answers
use Rattle.pm_store.specs.declared.answer.Made.TheVariants as creates
use Rattle.pm_store.specs.declared.answer.Published.TheVariants as published
use Rattle.pm_store.specs.declared.call.Call.{Call}
use Rattle.pm_store.specs.declared.call.Effect.{Effect}
use Rattle.pm_machine.specs.Moves.{Changes, Leads}
use Rattle.pm_machine.specs.Step.{path_of}
use Rattle.pm_model_history.specs.History.{History, IsTableOf}
use Rattle.pm_schema.specs.declared.schema.TableSchema.{TableSchema}
use Rattle.pm_model_folder.specs.Changes.{Actor, IsNamedBy}
use Rattle.pm_model_folder.specs.Ledger.{Advances, IsKnown, Past, Stands, count_of}
use Rattle.pm_put.specs.Putter as putters
use Rattle.pm_put.specs.Putter.{create_next as put_next, publish_call}
use Rattle.pm_put.specs.declared.phase.Phase as put_phase
use Rattle.pm_put.specs.declared.phase.Phase.TheVariants as puts
use Rattle.pm_put.specs.declared.putting.CommitFile.{CommitFile}
use Rattle.pm_put.specs.declared.putting.Publishing.{Publishing}
use Rattle.pm_read_table.specs.declared.phase.Phase as view_phase
use Rattle.pm_read_table.specs.declared.phase.Phase.TheVariants as views
use Rattle.pm_read_table.specs.declared.view.View.{View}
use Rattle.pm_made.specs.Commit.{IsFoundAs}
use Rattle.pm_made.specs.declared.intent.Intent.TheVariants as intents
use Rattle.pm_made.specs.declared.newest.Author.{Author}
use Rattle.pm_compaction.specs.Compacted.{HasCompacted}
use Rattle.pm_plan.specs.Planned.{author_of}
use Rattle.pm_commit.specs.Alone as commit_alone
use Rattle.pm_commit.specs.Alone.{IsTryAt, begun_at}
use Rattle.pm_commit.specs.Committer as commit
use Rattle.pm_commit.specs.Committer.{AfterPutter}
use Rattle.pm_commit.specs.Marks.{FindsUsed}
use Rattle.pm_commit.specs.Meaning.{AddsOwn, MakesEntry, path_after}
use Rattle.pm_commit.specs.Own as owns
use Rattle.pm_commit.specs.Own.{OwnView, with_lost}
use Rattle.pm_commit.specs.declared.phase.Phase as commit_phase
use Rattle.pm_commit.specs.declared.phase.Phase.TheVariants as commits
use Rattle.pm_commit.proofs.AdvanceLemmas.{one-table}
use Rattle.pm_commit.proofs.AloneLemmas.{either-way, failed-on, refused-on, went-on}
use Rattle.pm_commit.proofs.CommitterLemmas.{begun-at, begun-intent}
use Rattle.pm_commit.proofs.Facts.{changes-on}
use Rattle.pm_commit.proofs.FoundLemmas.{found-stood}
use Rattle.pm_commit.proofs.OutcomeLemmas.{err-ok, ok-same}
use Rattle.pm_commit.proofs.PublishLemmas.{compacted-whole}
use Rattle.pm_commit.proofs.TraceLemmas.{if-is, some-at}
use Rattle.pm_compactor.specs.AllCalls.{Beginning, BearsCompaction, IsNewestView, WasUsed, author_in, entry_of, newest_id}
use Rattle.pm_compactor.specs.Alone.{AloneRefused, CommitsAlone, IsCommitOf, IsEither, IsPastOf, KnewAlone, MakesAlone, begun_in}
use Rattle.pm_compactor.specs.Compactor.{actor_of, chosen_in}
use Rattle.pm_compactor.specs.declared.phase.Phase.TheVariants as phases
use Rattle.pm_compactor.proofs.AloneLemmas.{AloneLaws, try-actor}

-- ---- a putter's end

first-not : (x : Publishing) (files : List CommitFile) → puts.Published ≡ put_next x files → ⊥
first-not x [] is = cc
first-not x (file ∷ files) is = cc

-- it published, so the publish was answered so
put-published : (P : Type 0) (m : put_phase.Phase) (answer : Answer) → putters.Goes m answer puts.Published
    → ((x : Publishing) → m ≡ puts.Publish x → answer ≡ answers.Published published.Created → P) → P
put-published P (puts.Create making) (answers.Made creates.Created) is done = absurd (first-not making.publishing making.rest is)
put-published P (puts.Publish x) (answers.Published published.Created) is done = done x refl refl
put-published P (puts.Publish x) (answers.Published published.Exists) is done = absurd (let clash : puts.Published ≡ puts.Lost = is in cc)
put-published P (puts.Publish x) (answers.Published published.AfterGone) is done = absurd (let clash : puts.Published ≡ puts.Lost = is in cc)
put-published P m answer goes done = absurd goes

-- it refuses where a create met a file, or eleven tries were lost
put-refuses : (own : OwnView) (s : TableSchema) (id : ℕ) (m : put_phase.Phase) (answer : Answer) (refusal : Refusal) → commit.Shown (commits.Put own s id m) answer refusal
    → ((path : List ℕ) × (refusal ≡ refusals.SessionUsed path)) ⊎ ((ids : List ℕ) × (refusal ≡ refusals.Contended ids))
put-refuses own s id (puts.Create making) (answers.Made creates.Exists) refusal (inl is) = inl (making.next.path, is)
put-refuses own s id (puts.Create making) answer refusal (inl shown) = absurd shown
put-refuses own s id m answer refusal (inl shown) = absurd shown
put-refuses own s id m answer refusal (inr (to, goes, on)) = by to on
  where
    by : (to : put_phase.Phase) → AfterPutter own s id to (Err refusal)
        → ((path : List ℕ) × (refusal ≡ refusals.SessionUsed path)) ⊎ ((ids : List ℕ) × (refusal ≡ refusals.Contended ids))
    by puts.Lost (last, is) = inr (own.lost ++ id ∷ [], is)
    by to is = absurd (err-ok refusal _ is)

lost-some : (ids : List ℕ) (id : ℕ) → ids ++ id ∷ [] ≡ [] → ⊥
lost-some [] id is = cc
lost-some (x ∷ ids) id is = cc

module _ (laws : AloneLaws) (b : Beginning) where
  -- what is known of the past stays so by such a change
  pub past-on : (f after : Files) (p q : Past) → Stands f p → IsPastOf b p → MakesAlone b f p after q → IsPastOf b q
  past-on f after p q stands past makes = record {
    stood = λ id known within.
        let was : IsKnown p id = record {
          after_origin = known.after_origin;
          from = subst (λ (first : ℕ). first ≤ id) makes.advances.first known.from;
          to = subst (λ (h : History). id ≤ count_of h) (sym makes.same) within;
        } in
        makes.advances.same id was ∙ past.stood id was within;
    others = λ other apart none. laws.others other (actor_of b.asking.names) f after p q stands makes.advances apart (past.others other apart none);
  }

  module _ (v : View) (newest : IsNewestView b v) (some : chosen_in b.asking v ≢ []) (own : OwnView) (of : IsCommitOf b v own) where
    abbrev cb : commit_alone.Beginning
    cb = begun_in b v own

    -- the commit of its try
    try-intent : (o : OwnView) (id : ℕ) → IsTryAt cb o id → o.intent ≡ intents.Compact of.plan
    try-intent o id ((count, is), next, reason) = ap (λ (o : OwnView). o.intent) is ∙ begun-intent own (newest_id b) ∙ of.intent

    author-begun : (begun_at cb).author ≡ author_in b.asking v
    author-begun = begun-at (λ o. o.author ≡ author_in b.asking v) own (newest_id b) of.author
        (ap (λ (a : Author). record a { base = newest_id b }) of.author ∙ ap (author_of b.asking) (sym newest.newest.id))

    try-author : (o : OwnView) (id : ℕ) → IsTryAt cb o id → o.author ≡ author_in b.asking v
    try-author o id ((count, is), next, reason) = ap (λ (o : OwnView). o.author) is ∙ author-begun

    -- ---- what it changes

    pub commit-makes : (o : OwnView) (s : TableSchema) (id : ℕ) (m : put_phase.Phase) (f after : Files) (p q : Past) → IsTryAt cb o id → p.history ≡ b.history
        → MakesEntry (entry_of b.asking v) (commits.Put o s id m) f p after q → MakesAlone b f p after q
    commit-makes o s id m f after p q is_try same makes = record {
      same = same;
      advances = subst (λ (me : Actor). Advances me f p after q) (try-actor b v own o id of is_try) makes.advances;
      either = elim (either-way cb p.history q.history same makes.appends) as (λ _. IsEither b q.history) [
        | inl stays ↦ inl stays
        | inr more ↦ inr (v, newest, some, more)
      ];
      adds = subst (λ (me : Actor). AddsOwn me (path_after b.history) f after) (try-actor b v own o id of is_try)
          (subst (λ (h : History). AddsOwn (owns.actor_of o) (path_after h) f after) same makes.adds);
      consumers = makes.consumers;
    }

    -- ---- its snapshot

    bears : (o : OwnView) (s : TableSchema) (id : ℕ) (x : Publishing) (f : Files) (p : Past) → Stands f p → IsPastOf b p
        → commit_alone.KnewAlone cb (commits.Put o s id (puts.Publish x)) f p → Answers (publish_call x) (answers.Published published.Created) f
        → BearsCompaction b v (carried (publish_call x) f)
    bears o s id x f p stands past ((putting, (known, is_try), gave), (same, (at_try, untouched))) told =
        let compact = compacted-whole laws.held.one laws.held.same laws.held.paths laws.held.live laws.held.newest laws.held.unnamed laws.held.append
        laws.held.compact o (entry_of b.asking v) s id x f p stands putting.0 known is_try gave of.plan (try-intent o id at_try) told in
        let schema : s ≡ v.schema = one-table s v.schema b.history (subst (IsTableOf s) same known.is_table) newest.table in
        let newest_id_is : is_try.attempt.newest.id ≡ newest_id b =
        (let one = is_try.is in let two = is_try.made.id in let three = at_try.1 in omega (arith, one, two, three)) in
        let found : IsFoundAs b.files s is_try.attempt.newest is_try.attempt.newest.snapshot =
        found-stood laws.held.live f b.files p (record { schema = s; newest = is_try.attempt.newest }) stands is_try.found
        (λ n known is. past.stood n known (let last = newest_id_is in omega (arith, is, last))) in (
          of.plan,
          of.of_choice,
          is_try.attempt.newest,
          record {
            id = newest_id_is;
            found = subst (λ (s : TableSchema). IsFoundAs b.files s is_try.attempt.newest is_try.attempt.newest.snapshot) schema found;
          },
          subst (λ (a : Author). HasCompacted (carried (publish_call x) f) v.schema is_try.attempt.newest a of.plan) (try-author o id at_try)
              (subst (λ (s : TableSchema). HasCompacted (carried (publish_call x) f) s is_try.attempt.newest o.author of.plan) schema compact),
        )

    -- ---- an answer

    lost-not : (o : OwnView) (id : ℕ) (m : view_phase.Phase) (f : Files) (now : History) → commit_alone.AloneAt cb (commits.View (with_lost id o) m) f now → ⊥
    lost-not o id m f now (same, (unchanged, is, reads)) = lost-some o.lost id (ap (λ (o : OwnView). o.lost) is ∙ of.unlost)

    commits-to : (o : OwnView) (s : TableSchema) (id : ℕ) (m to : put_phase.Phase) (answer : Answer) (new : commit_phase.Phase) (f : Files) (p q : Past)
        → putters.Goes m answer to → AfterPutter o s id to (Ok new) → Stands f p → IsPastOf b p → commit_alone.KnewAlone cb (commits.Put o s id m) f p → (call : Call)
        → putters.next_call m ≡ Some call → Answers call answer f → commit_alone.KnewAlone cb new (carried call f) q
        → CommitsAlone b v own new (carried call f) q
    commits-to o s id m puts.Published answer new f p q goes is stands past known call at told knew =
        put-published (CommitsAlone b v own new (carried call f) q) m answer goes (λ x is_m is_answer.
        let call_is : publish_call x ≡ call = (let e : Some (publish_call x) ≡ Some call = sym (ap putters.next_call is_m) ∙ at in cc) in
        let knew_here = subst (λ (new : commit_phase.Phase). commit_alone.KnewAlone cb new (carried call f) q) (ok-same new _ is) knew in
        let has : BearsCompaction b v (carried (publish_call x) f) =
        bears o s id x f p stands past (subst (λ (m : put_phase.Phase). commit_alone.KnewAlone cb (commits.Put o s id m) f p) is_m known)
        (subst (λ (answer : Answer). Answers (publish_call x) answer f) is_answer (subst (λ (call : Call). Answers call answer f) (sym call_is) told)) in
        subst (λ (new : commit_phase.Phase). CommitsAlone b v own new (carried call f) q) (sym (ok-same new _ is))
        (knew_here.1.0, knew_here.1.1.1, subst (λ (call : Call). BearsCompaction b v (carried call f)) call_is has))
    commits-to o s id m puts.Lost answer new f p q goes (few, is) stands past known call at told knew =
        absurd (lost-not o id (views.List (commit.newest_of s)) (carried call f) q.history (subst (λ (new : commit_phase.Phase). commit_alone.AloneAt cb new (carried call f) q.history) is knew.1))
    commits-to o s id m to answer new f p q goes is stands past known call at told knew =
        subst (λ (new : commit_phase.Phase). CommitsAlone b v own new (carried call f) q) (sym (ok-same new _ is))
        (subst (λ (new : commit_phase.Phase). commit_alone.KnewAlone cb new (carried call f) q) (ok-same new _ is) knew)

    pub went-commit : (m : commit_phase.Phase) (answer : Answer) (new : commit_phase.Phase) (f : Files) (p : Past) → commit.Goes m answer new → Stands f p → IsPastOf b p
        → CommitsAlone b v own m f p
        → IfSome (commit.next_call m) (λ call. Answers call answer f → Leads (MakesAlone b) (KnewAlone b (phases.Commit new)) f p (carried call f))
    went-commit (commits.Put o s id m) answer new f p (to, goes, on) stands past known =
        if-is (putters.next_call m) _ (λ call at told.
        (let leads = some-at (putters.next_call m) call _ at
        (went-on laws.held laws.causes laws.parts cb (commits.Put o s id m) answer new f p (to, goes, on) stands known) told in
        let (q, entry, knew) = leads in
        let makes = commit-makes o s id m f (carried call f) p q known.1.1.0 known.1.0 entry in (
          q,
          makes,
          (
            past-on f (carried call f) p q stands past makes,
            (v, newest, some, (own, of, commits-to o s id m to answer new f p q goes on stands past known call at told knew)),
          ),
        )))
    went-commit (commits.Committed author id) answer new f p goes stands past known = absurd goes
    went-commit m answer new f p goes stands past known = absurd known

    -- ---- a refusal

    -- the names of the commit have the mark of those that were asked for
    used-as : (path : List ℕ) → commit_alone.WasUsed cb path → WasUsed b path
    used-as path (inl (names, listing, finds)) =
        inl (names, listing, subst (λ (me : Actor). FindsUsed (naming me.session me.number 0) names (Some path)) of.maker finds)
    used-as path (inr (named, there)) = inr (subst (λ (me : Actor). IsNamedBy me path) of.maker named, there)

    pub refused-commit : (m : commit_phase.Phase) (answer : Answer) (refusal : Refusal) (f : Files) (p : Past) → commit.Shown m answer refusal → Stands f p → IsPastOf b p
        → CommitsAlone b v own m f p
        → IfSome (commit.next_call m) (λ call. Answers call answer f → Leads (MakesAlone b) (λ g q. IsPastOf b q × AloneRefused b refusal g q) f p (carried call f))
    refused-commit (commits.Put o s id m) answer refusal f p shown stands past known =
        IfSome_then (putters.next_call m) (refused-on laws.held laws.causes laws.parts cb (commits.Put o s id m) answer refusal f p shown stands known)
        (λ call leads told. (let (q, entry, refused) = leads told in
        let makes = commit-makes o s id m f (carried call f) p q known.1.1.0 known.1.0 entry in
        (q, makes, (past-on f (carried call f) p q stands past makes, by (carried call f) q (put-refuses o s id m answer refusal shown) refused))))
      where
        by : (g : Files) (q : Past) → ((path : List ℕ) × (refusal ≡ refusals.SessionUsed path)) ⊎ ((ids : List ℕ) × (refusal ≡ refusals.Contended ids))
            → commit_alone.AloneRefused cb refusal g q → AloneRefused b refusal g q
        by g q (inl (path, is)) refused =
            let (same, used) = subst (λ (r : Refusal). commit_alone.AloneRefused cb r g q) is refused in
            subst (λ (r : Refusal). AloneRefused b r g q) (sym is) (same, used-as path used)
        by g q (inr (ids, is)) refused = absurd (subst (λ (r : Refusal). commit_alone.AloneRefused cb r g q) is refused)
    refused-commit (commits.Committed author id) answer refusal f p shown stands past known = absurd shown
    refused-commit m answer refusal f p shown stands past known = absurd known

    -- ---- a fault of the store

    pub failed-commit : (m : commit_phase.Phase) (effect : Effect) (f : Files) (p : Past) → Stands f p → IsPastOf b p → CommitsAlone b v own m f p
        → IfSome (commit.next_call m) (λ call. Leads (MakesAlone b) (λ g q. IsPastOf b q × AloneRefused b (refusals.StoreFault (path_of call)) g q) f p
        (after_effect call effect f))
    failed-commit (commits.Put o s id m) effect f p stands past known =
        if-is (putters.next_call m) _ (λ call at.
        (let some_call : IsSome (putters.next_call m) = subst (λ (o : Option Call). IsSome o) (sym at) refl in
        let leads = some-at (putters.next_call m) call _ at (failed-on laws.held laws.causes laws.parts cb (commits.Put o s id m) effect f p some_call stands known) in
        let (q, entry, refused) = leads in
        let makes = commit-makes o s id m f (after_effect call effect f) p q known.1.1.0 known.1.0 entry in (
          q,
          makes,
          (
            past-on f (after_effect call effect f) p q stands past makes,
            elim refused as (λ _. AloneRefused b (refusals.StoreFault (path_of call)) (after_effect call effect f) q) [
              | inl same ↦ inl same
              | inr more ↦ inr (more.1, (v, newest, some, more.0))
            ],
          ),
        )))
    failed-commit (commits.Committed author id) effect f p stands past known = tt
    failed-commit m effect f p stands past known = absurd known

    -- ---- whatever is carried out

    pub changes-commit : (m : commit_phase.Phase) (f : Files) (p : Past) → Stands f p → CommitsAlone b v own m f p
        → IfSome (commit.next_call m) (λ call. Changes (MakesAlone b) call f p)
    changes-commit (commits.Put o s id m) f p stands known =
        IfSome_then (putters.next_call m) (changes-on laws.held (entry_of b.asking v) (commits.Put o s id m) f p stands known.0.0 known.0.1 known.0.2)
        (λ call changes effect. (let (q, entry) = changes effect in (q, commit-makes o s id m f (after_effect call effect f) p q known.1.1.0 known.1.0 entry)))
    changes-commit (commits.Committed author id) f p stands known = tt
    changes-commit m f p stands known = absurd known
