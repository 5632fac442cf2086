-- The words that a walk is written in, handed on under one name. It states nothing of its own.
-- ---- what a walk states
pub use base.Fml.{Lft, Share, Fml, ftrue, flft, fat, GName, froom, fdies, fshr_bor, fsep}
pub use base.Logic.{SProp, ent, sep, id⊢}
pub use contract.Monad.{Fun, fact}
pub use denote.Exit.{yes}
pub use denote.Triple.Clauses.{ensured, lasts}
pub use denote.Triple.Entry.{on_entry, Vals}
pub use denote.Triple.Spec.{triple_of}
pub use denote.Triple.Statement.{Contract, Triple}
pub use denote.Triple.Walked.{says, Stays, stay_none_slice, walk_of, Goes-none_slice, ends_at, stay_none, Goes-none, gave_slice, Goes-gave_slice}
pub use ghost.Atoms.{Atoms}
pub use Rattle.std.specs.Borrow.{sem}
pub use Rattle.std.specs.Borrow.{full_share}
pub use seplogic.Ra.Ura.{Ura}
pub use prog.Memory.{Memory}
pub use prog.Routine.{Routine}
pub use prog.Wp.{Heap, WpFn, Tables, Out, Env, after_seq, after_block, Calls, Loops, Wp, at_return}
unfoldable pub use prog.Wp.{after_turn}
-- ---- values, their types and their machine values
pub use denote.Builtin.{u8, usize, u16}
pub use denote.Laws.{Is, shows}
pub use denote.Memory.{pointee, shares}
pub use denote.Plain.{uint_Makes, uint_Lawful, uint_vals, uint_Tells}
pub use denote.RattleType.{owns, Valss}
pub use denote.Ref.{Bor, MutBor, NamedLft}
pub use denote.Signature.{plain, named_lft}
pub use denote.Slice.{slice_val, ShrSlice, shr_slice_vals, mut_slice_vals, shr_slice_Tells, shr_slice_Lawful, shr_slice_copy, slice_ty, MutSlice, Room, finally, mut_slice_Tells}
pub use denote.Struct.Declared.{Declared, shape}
pub use denote.Struct.Field.{rows}
pub use denote.Struct.Struct.{within}
pub use denote.Struct.Values.{Values, intos}
pub use mir.Syntax.{named, w64, erased, Ty, Body, imm, w16, ty_int, ty_bool, ty_ptr, ty_ref}
pub use mir.Val.{Val, WT, has_ty, vint, vbool, vptr}
pub use denote.Enum.Laws as EL
pub use denote.Struct.Laws as LL
-- ---- the steps of a walk
pub use denote.Index.{place_is, elem_out, elem_back, looks_slice, shuts_slice}
pub use denote.Steps.{nothing, owned, only, peeks, heard}
pub use denote.Struct.Rest.{own_shut, all_own, field_own, rest, own_open, own_out, own_put}
pub use denote.Triple.Call.{calls_at}
pub use sound.WpLaws.{fm_of}
pub use types.Kit.{‵, raw, ◌⊛◌, ◌$◌, ◌∵◌, !, qed, by, move, use1, split, fsplit, fjoin, suffices, frame, given, ⋆, drop, use2, join, learn, rewrite, fpack, feq_i, done, Item, runs, any_q, at_ret, Sq, keep, use3, some, later, split3, pick, feq_l, await}
pub use types.Part.{agg, whole, sub, look_in}
pub use types.Run.{look, init, forget, stop, from, load, lit, and_then, no_more, assigns, returns, enter, alloc1, alloc0, params1, pass1, pass0, free1, free0, fld, of_opd, land, look_raw, store, hop, bin, assigns_last, first, stays, leaves_loop, blocks, exec, Below, again, loops, addr}
pub use types.Share.{arr_parts}
