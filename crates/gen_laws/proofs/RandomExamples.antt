-- The first table from seed 0, by its names, and a small text: a false definition fails here.
use Rattle.std.proofs.Common.{◌≡◌, [], ◌∷◌, true, false, codes, refl}
use Rattle.std.specs.Fmt.{digits}
use Rattle.blif_model.specs.declared.design.Bit.TheVariants.{Zero, One}
use Rattle.gen_laws.specs.Named.{named_text}
use Rattle.gen_laws.specs.Random.{row_of, names_from, drawn_table, drawn_tables, drawn_on, gen_design}

-- table 0 reads i4 and i6, the first without the second
first_table : drawn_table 0 0xE220A8397B1DCDAF ≡ record { pins = codes "i4" ∷ codes "i6" ∷ []; target = codes "t0"; rows = row_of One Zero ∷ []; on = true }
unfolding digits
first_table = refl

nor_is_off : drawn_on 1 ≡ false
nor_is_off = refl

last_outputs : names_from 116 8 3 ≡ codes "t8" ∷ codes "t9" ∷ codes "t10" ∷ []
unfolding digits names_from
last_outputs = refl

-- a design of one table
small_text : named_text (gen_design 0 1) ≡ codes ".model gen\n.inputs i0 i1 i2 i3 i4 i5 i6 i7 i8 i9 i10 i11 i12 i13 i14 i15\n.outputs t0\n.names i4 i6 t0\n10 1\n.end\n"
unfolding digits names_from drawn_tables gen_design
small_text = refl
