-- The cut of a text into its longest pieces.
use Rattle.std.specs.Prelude.{◌≡◌, ℕ, ◌<◌, ◌≤◌, ◌^◌, List, [], ◌∷◌, length, take, Option, Some, None}
use Rattle.std.specs.Str.Lossy.{utf8_valid_len}
use Rattle.bvd_text.specs.Places.{place_behind}
use Rattle.bv_lex.specs.declared.token.Token.{Token}
use Rattle.bv_lex.specs.declared.token.TokenKind.{TokenKind}
use Rattle.bv_lex.specs.declared.token.TokenKind.TheVariants.{Numeral, Name, Reserved, Text, Sign}
use Rattle.bv_lex.specs.declared.fault.Fault.{Fault}
use Rattle.bv_lex.specs.declared.fault.FaultKind.{FaultKind}
use Rattle.bv_lex.specs.declared.fault.FaultKind.TheVariants.{Lex, Syntax, Typing, Limit, Memory}
use Rattle.bv_lex.specs.declared.fault.What.TheVariants as what
use Rattle.bv_lex.specs.Pieces.{IsBad, IsFront}

-- the bytes up to the first that isn't UTF-8
abbrev pub utf8_front : List ℕ → List ℕ
utf8_front bytes = take (utf8_valid_len bytes) bytes

-- a numeral is below 2^128
abbrev pub IsWithin : TokenKind → Type 0
IsWithin (Numeral n) = n < 2 ^ 128
IsWithin Name = Unit {0}
IsWithin Reserved = Unit {0}
IsWithin Text = Unit {0}
IsWithin Sign = Unit {0}

-- a fault of this kind stands at i
pub data Stops (bs : List ℕ) (i : ℕ) : FaultKind → Type 0 where
  bad : IsBad bs i → Stops bs i Lex
  large : {n j : ℕ} → IsFront bs (Some (Numeral n)) i j → 2 ^ 128 ≤ n → Stops bs i (Limit what.Number)

-- Cut bytes i ts f: from the byte i on the text is cut into its longest pieces, of which ts are the tokens, each with its
-- place; f is the fault at which the cut ends, or none where it ends with the text
pub data Cut (bytes : List ℕ) : ℕ → List Token → Option Fault → Type 0 where
  done : {i : ℕ} → i ≡ length bytes → Cut bytes i [] None
  skip : {i j : ℕ} {ts : List Token} {f : Option Fault} → IsFront (utf8_front bytes) None i j → Cut bytes j ts f → Cut bytes i ts f
  token : {i j : ℕ} {k : TokenKind} {ts : List Token} {f : Option Fault} → IsFront (utf8_front bytes) (Some k) i j → IsWithin k → Cut bytes j ts f
      → Cut bytes i (record { kind = k; from = i; to = j; place = place_behind (take i bytes) } ∷ ts) f
  stop : {i : ℕ} {k : FaultKind} → i < length bytes → Stops (utf8_front bytes) i k
      → Cut bytes i [] (Some (record { kind = k; place = place_behind (take i bytes) }))

-- the bytes are wholly cut into pieces, of which these are the tokens
abbrev pub AreTokens : List ℕ → List Token → Type 0
AreTokens bytes ts = Cut bytes 0 ts None

-- the bytes are cut up to this fault
abbrev pub IsTokenFault : List ℕ → Fault → Type 0
IsTokenFault bytes f = (ts : List Token) × Cut bytes 0 ts (Some f)

-- a token has a byte or more, and ends within so many bytes
abbrev pub IsSpanWithin : ℕ → Token → Type 0
IsSpanWithin n t = (t.from < t.to) × (t.to ≤ n)

-- the one token ends where the other begins, or before
abbrev pub EndsBefore : Token → Token → Type 0
EndsBefore t u = t.to ≤ u.from

-- want of memory
abbrev pub IsMemory : FaultKind → Type 0
IsMemory (Memory e) = Unit {0}
IsMemory Lex = ⊥
IsMemory Syntax = ⊥
IsMemory Typing = ⊥
IsMemory (Limit w) = ⊥
