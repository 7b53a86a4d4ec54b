-- `of` makes the empty struct, with the units that its clause names. Assumes `Logic`.
use Rattle.std.proofs.Common.{[], ◌∷◌, refl}
use seplogic.Ra.Ura.{Ura}
use mir.Syntax.{Fn, a_type, named}
use mir.Val.{Val, vstruct, vcons, vnil}
use mir.MapTy.{inst_fn}
use base.Logic.{SProp}
use prog.Memory.{Memory}
use prog.Routine.{Routine}
use prog.Wp.{WpFn, Tables}
use types.Logic.{Logic}
use contract.Monad.{Fun}
use contract.Running.{tables, tables_of}
use sound.WpLaws.{WpFn-mono}
use types.Kit.{‵, raw, ◌⊛◌, ◌$◌, ◌∵◌, !, qed, move, keep, split, join, fjoin, suffices, done}
use types.Run.{no_more, and_then, returns, enter}
use types.Part.{agg}
use types.ByLocal.{alloc_all, pass_all, free_all, look_at, get, sets}
use denote.RattleType.{RattleType, owns}
use denote.Builtin.{SliceRefOf}
use denote.Exit.{yes}
use denote.Param.{param, layouts}
use denote.Shadow.{pure_i}
use denote.Signature.{plain, types_at}
use denote.Slice.{shr_slice_vals, shr_slice_Tells}
use denote.Steps.{nothing}
use denote.Triple.Clauses.{Clauses, closing}
use denote.Triple.Entry.{alive}
use denote.Triple.Spec.{Meets, triple_of}
use denote.Triple.Table.{entered}
use denote.Triple.Walked.{says, Stays, stay_dropped, Goes-dropped, ends_at, walked, walk_Meets}
use Rattle.icu_normalizer_c.specs.contracts.history.History as Histories
use Rattle.icu_normalizer_c.specs.contracts.history.History.of.{ended, clauses}
use Rattle.icu_normalizer_c.specs.contracts.history.History.of.Key.{name as #self}
use Rattle.icu_normalizer_c.proofs.history.History.of.Statement as stated
use Rattle.icu_normalizer_c.proofs.history.History.of.Code as code

abbrev v : Val
v = vstruct (vcons (vstruct vnil) vnil)

module _ (Y : RattleType) where
  abbrev R : RattleType
  R = param 0 Y

  abbrev function : Fn
  function = inst_fn (layouts (a_type ∷ []) (Y, tt)) code.function

  abbrev stayed : Stays (ended Y).signature.params (ended Y).kept
  stayed = (stay_dropped (SliceRefOf (0 ∷ []) tt (plain (λ _. R)) (λ _. tt)) yes, tt)

  module _ {M : Type 1} {𝓤 : Ura M} (𝓛 : Logic 𝓤) (at_mem : Memory → SProp 𝓤) (run : Routine → Fun 𝓤) where
    open 𝓛 use {H}

    abbrev held : Clauses 𝓤 (ended Y)
    held = clauses Y 𝓛 at_mem run

    meets : (𝓣 : Tables 𝓤 H) → Meets 𝓛 (ended Y).signature (WpFn 𝓤 H 𝓣.C 𝓣.Λ function) (closing 𝓛 (ended Y) held)
    meets 𝓣 =
        walk_Meets 𝓛 (ended Y) stayed (Goes-dropped 𝓛 2 (SliceRefOf (0 ∷ []) tt (plain (λ _. R)) (λ _. tt)) yes (λ κs x f. refl), tt) held (WpFn 𝓤 H 𝓣.C 𝓣.Λ function) (WpFn-mono 𝓤 H 𝓛.laws 𝓣 function)
        (walked 𝓛 (ended Y) stayed held (WpFn 𝓤 H 𝓣.C 𝓣.Λ function) (λ κs. (shr_slice_vals, tt)) (λ κs. (shr_slice_Tells (named 0) κs.0 R, tt)) (λ κs qs bounds a g are.
        let made : (Histories.the_row R).Denot = record { of = record {}; units = a.0.now } in
        qed 𝓛 ((raw (alive 𝓛 (ended Y).signature κs qs) ⊛ ‵ (owns (types_at (ended Y).signature.params κs) a (shr_slice_vals a.0, tt))) ∷ raw ((held κs a).requires g) ∷ []) ∵ split ! $ keep ! (0 ∷ []) $
        enter ! 𝓣.C 𝓣.Λ function (shr_slice_vals a.0) _ $ alloc_all ! (λ l. pass_all ! refl ((tt, (tt, (record { fits = are.0.0.1.0 }, tt))), tt) $
        sets ! (agg ! (no_more !)) refl (tt, tt) $ sets ! (agg ! (and_then ! (get ! refl) (no_more !))) refl (tt, (tt, tt)) $
        returns ! (look_at ! 0 refl) $ free_all ! refl $
        pure_i ! ((Histories.the_row R).own_val made (v ∷ [])) ((λ vss. (tt, ((λ uss. (tt, tt)), tt))), tt) (((vstruct vnil ∷ [], tt), (refl, ((tt, (refl, tt)), tt))), tt) $
        suffices ! _ (ends_at 𝓛 (ended Y) stayed held ((κs, qs, bounds, a, (shr_slice_vals a.0, tt)), g) v made (tt, tt) (tt, tt)) $ says ! refl $
        nothing ! $ nothing ! $ fjoin ! $ join ! $ move ! (1 ∷ 0 ∷ []) $ join ! $ done !)))

pub of_spec : {M : Type 1} → stated.statement M
unfolding tables_of
of_spec 𝓤 𝓛 𝓜 𝓡 wired Y laws =
    let 𝓣 : Tables 𝓤 𝓛.H = tables_of 𝓤 𝓛.H 𝓜 (tables 𝓤 𝓛.H 𝓜 𝓡 𝓡.env) in
    entered 𝓤 𝓛.H (triple_of 𝓛 (ended Y).signature (closing 𝓛 (ended Y) (clauses Y 𝓛 𝓜.mem 𝓡.returns))) 𝓣.C 𝓣.Λ (#self (layouts (a_type ∷ []) (Y, tt))) (function Y) (code.unfolded 𝓤 𝓛.H 𝓜 𝓡 wired (Y, tt))
    (meets Y 𝓛 𝓜.mem 𝓡.returns 𝓣)
