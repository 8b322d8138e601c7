-- Values of the operators, computed by their definitions.
use Rattle.std.proofs.Common.{◌≡◌, ℕ, ◌+◌, ◌^◌, refl, true}
use Rattle.bv_value.specs.BitVector.{BitVector, of_number}
use Rattle.bv_value.specs.Operations as is

abbrev pub v : ℕ → ℕ → BitVector
v w n = record { width = w; number = n }

sdiv_row : is.sdiv (v 8 128) (v 8 255) ≡ v 8 128
sdiv_row = refl

srem_row : is.srem (v 8 249) (v 8 3) ≡ v 8 255
srem_row = refl

smod_row : is.smod (v 8 249) (v 8 3) ≡ v 8 2
smod_row = refl

reduced_row : of_number 8 300 ≡ v 8 44
reduced_row = refl

rotl_row : is.rotl (v 8 0x81) 9 ≡ v 8 3
rotl_row = refl

ashr_row : is.ashr_by (v 8 0x80) 200 ≡ v 8 0xff
ashr_row = refl

udiv_zero_row : is.udiv (v 8 7) (v 8 0) ≡ v 8 0
udiv_zero_row = refl

umod_zero_row : is.umod (v 8 7) (v 8 0) ≡ v 8 7
umod_zero_row = refl

wide_mul_row : is.mul (v 128 (2 ^ 127 + 5)) (v 128 6) ≡ v 128 30
wide_mul_row = refl

append_row : is.append (v 4 0xa) (v 8 0x5c) ≡ v 12 0xa5c
append_row = refl

extract_row : is.extract (v 8 0xb6) 2 3 ≡ v 3 5
extract_row = refl

sign_extend_row : is.sign_extend (v 4 9) 8 ≡ v 8 0xf9
sign_extend_row = refl

rotr_row : is.rotr (v 8 0x81) 1 ≡ v 8 0xc0
rotr_row = refl

slt_row : is.slt (v 8 0x80) (v 8 1) ≡ true
slt_row = refl

and_row : is.bitwise_and (v 4 0b1100) (v 4 0b1010) ≡ v 4 0b1000
and_row = refl

or_row : is.bitwise_or (v 4 0b1100) (v 4 0b1010) ≡ v 4 0b1110
or_row = refl

xor_row : is.bitwise_xor (v 4 0b1100) (v 4 0b1010) ≡ v 4 0b0110
xor_row = refl

ult_row : is.ult (v 8 3) (v 8 0x80) ≡ true
ult_row = refl

neg_row : is.neg (v 8 1) ≡ v 8 0xff
neg_row = refl

sub_row : is.sub (v 8 3) (v 8 5) ≡ v 8 0xfe
sub_row = refl

pub rows_hold : is.smod (v 8 249) (v 8 3) ≡ v 8 2
rows_hold = smod_row
