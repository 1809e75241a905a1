-- Updates stand after what was answered before their call: the run up to that answer has delivered no cast of theirs.
use Rattle.std.proofs.Common.{◌≡◌, ◌≢◌, ℕ, ◌+◌, ◌<◌, ◌≤◌, ◌⊎◌, inl, inr, List, length, refl, ap, sym, ◌∙◌, subst, arith}
use Rattle.std.proofs.Common.{length-append}
use Rattle.std.proofs.lemmas.Bool.{cases_order}
use Rattle.reg_base.specs.declared.memory.OpId.{OpId}
use Rattle.reg_base.specs.declared.memory.Op.{Op}
use Rattle.reg_base.specs.Memory.{IsUpdate}
use Rattle.reg_base.specs.Order.{In}
use Rattle.reg_base.proofs.Lists.{in_cases}
use Rattle.reg_front.specs.declared.starts.Start.{Start}
use Rattle.reg_front.specs.Fronts.{KeepsLaws, CastsAll}
use Rattle.reg_checkers.specs.declared.entries.Entry.{Entry}
use Rattle.reg_checkers.specs.declared.entries.Entry.TheVariants.{Called, Answered}
use Rattle.reg_checkers.specs.History.{IsAt, IsCalled, IsAnswered, IsFinished, IsHistory, event_of}
use Rattle.reg_checkers.proofs.Places.{within, same_at, at_map}
use Rattle.reg_checkers.proofs.Histories.{call_is, answered_was_called}
use Rattle.reg_process.specs.declared.events.Event.{Event}
use Rattle.reg_world.specs.declared.order.First.{First}
use Rattle.reg_world.specs.declared.order.CopyRead.{CopyRead}
use Rattle.reg_world.specs.Runs.{Run}
use Rattle.reg_world.specs.Keys.{Key, IsBelow, HasKey, Copied, Delivered, Lost, Keyed, IsWitness}
use Rattle.reg_world.specs.RealTime.{IsEarlier, IsCallOf, WaitsForDelivery, AnswersNothingFirst, KeepsUpdates}
use Rattle.reg_world.specs.RealTime.{KeepsAllUpdates, KeepsRealTime}
use Rattle.reg_world.specs.World.{World, whole}
use Rattle.reg_world.proofs.lists.Bodies.{place_first, place_split}
use Rattle.reg_world.proofs.lists.Members.{in_at, at_in}
use Rattle.reg_world.proofs.run.Begun.{IsBeginning, begun}
use Rattle.reg_world.proofs.witness.Grounds.{IsRun}
use Rattle.reg_world.proofs.witness.Once.{below_not_above, key_once}
use Rattle.reg_world.proofs.witness.Serial.{finished_has_key}
use Rattle.reg_world.proofs.witness.Premises.{W, R, J, K, is_run}
use Rattle.reg_world.proofs.witness.Promised.{order_right, replies_right}
use Rattle.reg_world.proofs.witness.Moments.{is_real_time}
use Rattle.reg_world.proofs.witness.Times.{laws_of}

-- the operation is not answered from a copy
abbrev IsNoCopy : Run → OpId → Type 0
IsNoCopy r b = (q : CopyRead) → ((k : ℕ) × IsAt r.reads k q) → q.id ≢ b

-- the key is one of the first places: of a read there, or of a cast there
abbrev IsAmong : ℕ → Key → Type 0
IsAmong n k = (k.place ≤ n) × ((k.kind ≡ 0) ⊎ ((k.place < n) × (k.kind ≡ 1)))

-- and this one is none of a read, and of no cast there
abbrev IsBehind : ℕ → Key → Type 0
IsBehind n k = (n ≤ k.place) × (0 < k.kind)

among_behind : (n : ℕ) (k l : Key) → IsAmong n k → IsBehind n l → IsBelow k l
among_behind n k l a b = grind arith

module _ (start : Op → ℕ → Start) (n registers : ℕ) (laws : KeepsLaws start) where
  -- what was answered in a run, and waits for its delivery, has its key among the casts of that run
  waited : (before : List Event) (a : OpId) → IsFinished (W start n registers laws before).history a → IsCallOf (WaitsForDelivery start) (W start n registers laws before).history a
      → (k : Key) × HasKey (R start n registers laws before) a k × IsAmong (length (W start n registers laws before).order) k
  waited before a fin call = go (finished_has_key (R start n registers laws before) ok a fin)
    where
      u : World
      u = W start n registers laws before

      ok : IsRun (R start n registers laws before)
      ok = is_run start n registers laws before

      go : (k : Key) × HasKey (R start n registers laws before) a k → (k : Key) × HasKey (R start n registers laws before) a k × IsAmong (length u.order) k
      go (k, Copied q i is e) = (k, Copied q i is e, subst (IsAmong (length u.order)) (sym e) ((ok.copied q i).within, inl refl))
      go (k, Delivered place c at is kept e) = (k, Delivered place c at is kept e, subst (IsAmong (length u.order)) (sym e) (let z : place < length u.order = within u.order place c at in ((let y : place ≤ length u.order = omega arith in y), inr (z, refl))))
      go (k, Lost d i is waits done e) =
          let replies = replies_right start n registers laws before in
          let y = replies.all a fin.0 fin.1 fin.2 in
          let named : d.id ≡ y.0.id = is ∙ sym y.2 in
          let called : IsCalled u.history y.0.id call.0 call.1 = subst (λ (x : OpId). IsCalled u.history x call.0 call.1) (sym y.2) call.2 in
          absurd (elim (replies.own y.0 d call.0 call.1 y.1 i named called) [
            | inl first ↦ call.3 _ first.1
            | inr there ↦ waits y.0.reply.place there.0 there.1 (there.2 ∙ y.2)
          ])

  module _ (before events : List Event) (B : IsBeginning (whole start n registers before) (whole start n registers events)) where
    abbrev pub u : World
    u = W start n registers laws before

    abbrev pub w : World
    w = W start n registers laws events

    good : IsHistory n registers w.history
    good = (K start n registers laws events).history

    told_on : (x : Entry) → ((k : ℕ) × IsAt u.history k x) → (k : ℕ) × IsAt w.history k x
    told_on x i = (i.0, subst (λ (h : List Entry). IsAt h i.0 x) (sym B.history.1) (place_first u.history B.history.0 i.0 x i.1))

    told_before : (x : Entry) → event_of x < length u.accepted → ((k : ℕ) × IsAt w.history k x) → (k : ℕ) × IsAt u.history k x
    told_before x early i = elim (in_cases x u.history B.history.0 (subst (In x) B.history.1 (at_in x w.history i))) [
      | inl j ↦ in_at x u.history j
      | inr j ↦ let late = B.history.2 x j in absurd (omega (arith, early, late))
    ]

    -- a key among the first casts is a key of the longer run too
    stays : (a : OpId) (k : Key) → IsAmong (length u.order) k → HasKey (R start n registers laws before) a k → HasKey (R start n registers laws events) a k
    stays a k among (Copied q i is e) = Copied q (i.0, subst (λ (xs : List CopyRead). IsAt xs i.0 q) (sym B.reads.1) (place_first u.reads B.reads.0 i.0 q i.1)) is e
    stays a k among (Delivered place c at is kept e) =
        Delivered place c (subst (λ (xs : List First). IsAt xs place c) (sym B.order.1) (place_first u.order B.order.0 place c at)) is
        (elim kept [ inl up ↦ inl up | inr fin ↦ inr (fin.0, fin.1, told_on (Answered fin.0 c.id fin.1) fin.2) ]) e
    stays a k among (Lost d i is waits fin e) =
        let kind : k.kind ≡ 2 = ap (λ (x : Key). x.kind) e in
        absurd (elim among.1 [ inl zero ↦ (let z : ⊥ = omega arith in z) | inr one ↦ (let o = one.1 in let z : ⊥ = omega (arith, o) in z) ])

    -- what is called later has its key after them
    later : (b : OpId) (t : ℕ) (op : Op) → IsCalled w.history b t op → length u.accepted ≤ t → IsNoCopy (R start n registers laws events) b → (l : Key) → HasKey (R start n registers laws events) b l → IsBehind (length u.order) l
    later b t op call late none l (Copied q i is e) = absurd (none q i is)
    later b t op call late none l (Delivered place c at is kept e) = elim (place_split u.order B.order.0 place c (subst (λ (xs : List First). IsAt xs place c) B.order.1 at)) [
      | inl old ↦
          let was = (order_right start n registers laws before).called place c old in
          let early : was.0 < length u.accepted = (J start n registers laws before).below (Called was.0 c.id c.op) (at_in (Called was.0 c.id c.op) u.history was.1) in
          let now : IsCalled w.history b was.0 c.op = subst (λ (x : OpId). IsCalled w.history x was.0 c.op) is (told_on (Called was.0 c.id c.op) was.1) in
          let same = (call_is n registers w.history good b was.0 t c.op op now call).0 in
          absurd (omega (arith, early, late, same))
      | inr new ↦ subst (IsBehind (length u.order)) (sym e) (new.0, (let z : 0 < 1 = omega arith in z))
    ]
    later b t op call late none l (Lost d i is waits fin e) =
        let more : length w.order ≡ length u.order + length B.order.0 = ap length B.order.1 ∙ length-append u.order B.order.0 in
        subst (IsBehind (length u.order)) (sym e) ((let z : length u.order ≤ length w.order = omega (arith, more) in z), (let z : 0 < 2 = omega arith in z))

  module _ (events : List Event) (ids : List OpId) (wit : IsWitness (R start n registers laws events) ids) where
    abbrev pub r : Run
    r = R start n registers laws events

    ok : IsRun r
    ok = is_run start n registers laws events

    place_has_key : (k : ℕ) (id : OpId) → IsAt ids k id → (e : Keyed) × IsAt wit.0 k e × HasKey r id e.key
    place_has_key k id at =
        let found = at_map (λ (e : Keyed). e.id) wit.0 k id (subst (λ (xs : List OpId). IsAt xs k id) wit.2 at) in
        (found.0, found.1, subst (λ (x : OpId). HasKey r x found.0.key) found.2 (wit.1.each k found.0 found.1))

    -- places go by keys
    by_keys : (i j : ℕ) (a b : OpId) → IsAt ids i a → IsAt ids j b → (k l : Key) → HasKey r a k → HasKey r b l → IsBelow k l → i < j
    by_keys i j a b at1 at2 k l ka lb below =
        let x = place_has_key i a at1 in
        let y = place_has_key j b at2 in
        let same_k = key_once r ok a x.0.key k x.2 ka in
        let same_l = key_once r ok b y.0.key l y.2 lb in
        let less : IsBelow x.0.key y.0.key = subst (λ (z : Key). IsBelow z y.0.key) (sym same_k) (subst (IsBelow k) (sym same_l) below) in
        go x.0 y.0 x.1 y.1 less (cases_order i j)
      where
        never : (z : Key) → IsBelow z z → ⊥
        never z h = below_not_above z z h h

        go : (x y : Keyed) → IsAt wit.0 i x → IsAt wit.0 j y → IsBelow x.key y.key → (i ≡ j) ⊎ ((i < j) ⊎ (j < i)) → i < j
        go x y hx hy less (inl e) =
            let one : x ≡ y = same_at wit.0 j x y (subst (λ (m : ℕ). IsAt wit.0 m x) e hx) hy in
            absurd (never y.key (subst (λ (z : Keyed). IsBelow z.key y.key) one less))
        go x y hx hy less (inr (inl h)) = h
        go x y hx hy less (inr (inr g)) = absurd (below_not_above x.key y.key less (wit.1.rising j i y x hy hx g))

    pub stands_behind : (i j : ℕ) (a b : OpId) → IsAt ids i a → IsAt ids j b → IsEarlier r.history a b → IsCallOf (WaitsForDelivery start) r.history a → IsNoCopy r b → i < j
    stands_behind i j a b at1 at2 (s, t, answer, op, answered, called, less) waits none =
        let early : s < length (W start n registers laws events).accepted = (J start n registers laws events).below (Answered s a answer) (at_in (Answered s a answer) r.history answered) in
        let cut = begun start n registers events (s + 1) (omega (arith, early)) in
        let before = cut.0 in
        let size = cut.1 in
        let B = cut.2 in
        let u = W start n registers laws before in
        let there : IsAnswered u.history a s answer = told_before before events B (Answered s a answer) (omega (arith, size)) answered in
        let was = answered_was_called n registers u.history (K start n registers laws before).history a s answer there in
        let same = (call_is n registers r.history (K start n registers laws events).history a waits.0 was.0 waits.1 was.1 waits.2 (told_on before events B (Called was.0 a was.1) was.2)).1 in
        let k = waited before a (s, answer, there) (was.0, was.1, was.2, subst (WaitsForDelivery start) same waits.3) in
        let y = place_has_key j b at2 in
        let l = later before events B b t op called (omega (arith, size, less)) none y.0.key y.2 in
        by_keys i j a b at1 at2 k.0 y.0.key (stays before events B a k.0 k.2 k.1) y.2 (among_behind (length u.order) k.0 y.0.key k.2 l)

    -- an update is not answered from a copy
    update_no_copy : (b : OpId) → IsCallOf IsUpdate r.history b → IsNoCopy r b
    update_no_copy b call q i is =
        let facts = ok.copied q i in
        let same = (call_is n registers r.history (K start n registers laws events).history b facts.called_at call.0 facts.op call.1 (subst (λ (x : OpId). IsCalled r.history x facts.called_at facts.op) is facts.called) call.2).1 in
        facts.reads (subst IsUpdate (sym same) call.3)

    pub keeps_updates : KeepsUpdates start r.history ids
    keeps_updates i j a b at1 at2 earlier waits update = stands_behind i j a b at1 at2 earlier waits (update_no_copy b update)

    -- what was answered was called
    call_of : (a b : OpId) (P : Op → Type 0) → IsEarlier r.history a b → ((op : Op) → P op) → IsCallOf P r.history a
    call_of a b P earlier all =
        let was = answered_was_called n registers r.history (K start n registers laws events).history a earlier.0 earlier.2 earlier.4 in
        (was.0, was.1, was.2, all was.1)

    pub keeps_all_updates : AnswersNothingFirst start → KeepsAllUpdates r.history ids
    keeps_all_updates all i j a b at1 at2 earlier update = stands_behind i j a b at1 at2 earlier (call_of a b (WaitsForDelivery start) earlier all) (update_no_copy b update)

-- where every operation is cast, none is answered first, and none from a copy
pub casts_wait : (start : Op → ℕ → Start) → CastsAll start → AnswersNothingFirst start
casts_wait start all op u first = let z = sym (all op u) ∙ first in absurd (let bad : ⊥ = cc in bad)

pub keeps_real_time : (start : Op → ℕ → Start) (n registers : ℕ) (all : CastsAll start) (events : List Event)
    (ids : List OpId)
    → IsWitness (R start n registers (laws_of start all) events) ids
    → KeepsRealTime (whole start n registers events).history ids
keeps_real_time start n registers all events ids wit i j a b at1 at2 earlier =
    let laws = laws_of start all in
    let ok = is_run start n registers laws events in
    let none : IsNoCopy (R start n registers laws events) b = λ q i is.
    let real = (is_real_time start n registers all events).all_delivered q.id (ok.copied q i).finished in
    (ok.copied q i).no_cast (record { stamp = real.1.stamp; id = real.1.id; op = real.1.op }) (ok.delivered real.0 real.1 real.2) real.3 in
    stands_behind start n registers laws events ids wit i j a b at1 at2 earlier (call_of start n registers laws events ids wit a b (WaitsForDelivery start) earlier (casts_wait start all)) none
