use Rattle.std.proofs.Common.{◌≡◌, true, false, ap, sym, ◌∙◌}
use Rattle.std.proofs.lemmas.List.{append-nil}
use Rattle.normalizer_packing.specs.declared.store.Store.{Store}
use Rattle.normalizer_packing.proofs.lists.StoreLemmas.{Holds-put, Holds-there, is_some-place, place_updated}
use Rattle.std.specs.Option.{is_some}
use Rattle.normalizer_packing.proofs.store.Store.put.Goals as goal
use Rattle.normalizer_packing.proofs.store.Store.put.Goals.{then-is_narrow+in_ok-place, else-is_narrow+in_ok-place-2}

pub returns-then-is_some : goal.returns-then-is_some
returns-then-is_some c = λ lists h.
    Holds-there lists _ c.args.list.now h (sym (is_some-place lists _ c.args.list.now h) ∙ ap is_some (sym c.place_of.ensures) ∙ sym c.is_some.ensures ∙ c.if-is_some.true)

pub returns-in-Ok : goal.returns-in-Ok
returns-in-Ok c = λ lists h.
    let fresh = sym (is_some-place lists _ c.args.list.now h) ∙ ap is_some (sym c.place_of.ensures) ∙ sym c.is_some.ensures ∙ c.if-is_some.false in
    let new : Store = record { scalars16 = c.if-is_narrow.self.scalars16; scalars24 = c.if-is_narrow.self.scalars24; places = c.insert.new.self } in
    let finds = λ (same : c.if-is_narrow.self.places ≡ c.args.self.now.places).
    place_updated c.args.self.now c.if-is_narrow.self new c.args.list.now c.if-is_narrow.place same c.in-Ok.ensures.updates in
    elim c.if-is_narrow.branch [
      | then-is_narrow+in_ok-place w ↦
          Holds-put lists _ _ h new _ true (sym c.is_narrow.ensures ∙ w.if-is_narrow.true) fresh (finds (ap (λ s. s.places) w.self-is)) (w.place-is ∙ w.in_ok-place.ensures.place)
          (ap (λ s. s.scalars16.items) w.self-is ∙ w.in_ok-place.ensures.appended) (ap (λ s. s.scalars24.items) w.self-is ∙ sym (append-nil _))
      | else-is_narrow+in_ok-place-2 w ↦
          Holds-put lists _ _ h new _ false (sym c.is_narrow.ensures ∙ w.if-is_narrow.false) fresh (finds (ap (λ s. s.places) w.self-is)) (w.place-is ∙ w.in_ok-place-2.ensures.place)
          (ap (λ s. s.scalars16.items) w.self-is ∙ sym (append-nil _)) (ap (λ s. s.scalars24.items) w.self-is ∙ w.in_ok-place-2.ensures.appended)
    ]
