-- Cases 1 to 12 of document 01, as one table: host calls on a created card, and the answers that they must get.
use Rattle.std.specs.Prelude.{ℕ, List, [], ◌∷◌, length, replicate, Ok}
use Rattle.rules.specs.Bytes.{hex}
use Rattle.rules.specs.Calls.{Asked, load, step, run_up_to, respond, read_variable, Answer, loaded, taken, ran, responded, shown, over, hidden, padded}
use Rattle.rules.specs.declared.Refusal.TheVariants.{Variable}
use Rattle.rules.specs.declared.Outcome.{Outcome}
use Rattle.rules.specs.declared.Outcome.TheVariants.{On, Command, Page, Ended, Refused}
use Rattle.rules.specs.Built.{faulty_at}

pub record Case : Type 0 where
  pub calls : List Asked
  pub wanted : List Answer

-- the command buffer that every call here lends
unfoldable pub lent : List ℕ
lent = replicate 255 0

abbrev accepted : Answer
accepted = loaded (Ok tt)

abbrev rejected : ℕ → ℕ → Answer
rejected class at = loaded (faulty_at class at)

abbrev steps : Outcome → ℕ → ℕ → Answer
steps o unit tag = taken (record { outcome = o; unit = unit; tag = tag }) lent []

abbrev sends : ℕ → ℕ → List ℕ → Answer
sends unit tag command = taken (record { outcome = Command (length command); unit = unit; tag = tag }) (over command lent) []

abbrev runs : Outcome → ℕ → Answer
runs o count = ran (record { outcome = o; count = count }) lent []

abbrev leads : ℕ → List ℕ → Answer
leads count reference = ran (record { outcome = Page; count = count }) lent reference

abbrev responds : Outcome → Answer
responds o = responded o lent []

abbrev shows : ℕ → List ℕ → Answer
shows type bytes = shown (record { number = 0; valuetype = type; length = length bytes; bytes = padded bytes })

abbrev hides : Answer
hides = shown (hidden Variable)

-- Case 1: page "A", unit "1", Exit: loads; one step; ended.
unfoldable pub case1 : Case
case1 =
    record {
      calls = load (hex 12 0x010a0201410a050b01314500) ∷ step lent ∷ [];
      wanted = accepted ∷ steps Ended 0 0x45 ∷ [];
    }

-- Case 2: the second byte one more.
unfoldable pub case2 : Case
case2 =
    record {
      calls = load (hex 12 0x010b0201410a050b01314500) ∷ [];
      wanted = rejected 2 0 ∷ [];
    }

-- Case 3: case 1 and one byte more.
unfoldable pub case3 : Case
case3 =
    record {
      calls = load (hex 13 0x010a0201410a050b0131450000) ∷ [];
      wanted = rejected 2 12 ∷ [];
    }

-- Case 4: on page "A": "#1" reaches unit 0, where the Set Variable of its start is done once more.
unfoldable pub case4a : Case
case4a =
    record {
      calls = load (hex 45 0x012b0201410a1f0b01314005800e02017e441380110a0e02012112040c02233112040c0223310a050b01324500) ∷ run_up_to 2 lent ∷ step lent ∷ [];
      wanted = accepted ∷ runs On 2 ∷ steps On 0 0x40 ∷ [];
    }

-- Case 4: "A#1" does.
unfoldable pub case4b : Case
case4b =
    record {
      calls = load (hex 46 0x012c0201410a200b01314005800e02017e441480110a0e02012112040c02233112050c034123310a050b01324500) ∷ run_up_to 2 lent ∷ step lent ∷ [];
      wanted = accepted ∷ runs On 2 ∷ steps On 0 0x40 ∷ [];
    }

-- Case 4: "A#" does.
unfoldable pub case4c : Case
case4c =
    record {
      calls = load (hex 45 0x012b0201410a1f0b01314005800e02017e441380110a0e02012112040c02233112040c0241230a050b01324500) ∷ run_up_to 2 lent ∷ step lent ∷ [];
      wanted = accepted ∷ runs On 2 ∷ steps On 0 0x40 ∷ [];
    }

-- Case 5: "X#Y#1" splits into page "X#Y", anchor "1": from page "A" another page is wanted.
unfoldable pub case5a : Case
case5a =
    record {
      calls = load (hex 41 0x01270201410a220b01314005800e02017e441680110a0e02012112040c02233112070c055823592331) ∷ run_up_to 9 lent ∷ [];
      wanted = accepted ∷ leads 2 (hex 5 0x5823592331) ∷ [];
    }

-- Case 5: on page "X#Y" the same split leads to its own unit "2".
unfoldable pub case5b : Case
case5b =
    record {
      calls = load (hex 51 0x013102035823590a220b01314005800e02017e441680110a0e02012112040c02233112070c0558235923320a060b0132c50101) ∷ run_up_to 2 lent ∷ step lent ∷ [];
      wanted = accepted ∷ runs On 2 ∷ steps Ended 1 0xC5 ∷ [];
    }

-- Case 6: "#" alone is refused.
unfoldable pub case6 : Case
case6 =
    record {
      calls = load (hex 24 0x01160201410a110b0131440c8011090e02012112030c0123) ∷ [];
      wanted = rejected 4 21 ∷ [];
    }

-- Case 7: range '11 13' matches '13'.
unfoldable pub case7a : Case
case7a =
    record {
      calls = load (hex 38 0x01240201410a180b0131080911130905200c02233246082180028d030468690a050b01324500) ∷ step lent ∷ respond (hex 12 0x810301218082028281830113) lent ∷ [];
      wanted = accepted ∷ sends 0 0x46 (hex 16 0xd00e8103012180820281028d03046869) ∷ responds On ∷ [];
    }

-- Case 7: and not '14', which the default ends.
unfoldable pub case7b : Case
case7b =
    record {
      calls = load (hex 38 0x01240201410a180b0131080911130905200c02233246082180028d030468690a050b01324500) ∷ step lent ∷ respond (hex 12 0x810301218082028281830114) lent ∷ [];
      wanted = accepted ∷ sends 0 0x46 (hex 16 0xd00e8103012180820281028d03046869) ∷ responds Ended ∷ [];
    }

-- Case 7: '10 10' matches '10'.
unfoldable pub case7c : Case
case7c =
    record {
      calls = load (hex 38 0x01240201410a180b0131080910100905200c02233246082180028d030468690a050b01324500) ∷ step lent ∷ respond (hex 12 0x810301218082028281830110) lent ∷ [];
      wanted = accepted ∷ sends 0 0x46 (hex 16 0xd00e8103012180820281028d03046869) ∷ responds On ∷ [];
    }

-- Case 7: and not '0F', which goes on to the next byte code.
unfoldable pub case7d : Case
case7d =
    record {
      calls = load (hex 38 0x01240201410a180b0131080910100905200c02233246082180028d030468690a050b01324500) ∷ step lent ∷ respond (hex 12 0x81030121808202828183010f) lent ∷ [];
      wanted = accepted ∷ sends 0 0x46 (hex 16 0xd00e8103012180820281028d03046869) ∷ responds On ∷ [];
    }

-- Case 7: and not '11', which goes back and finds nothing to go back to.
unfoldable pub case7e : Case
case7e =
    record {
      calls = load (hex 38 0x01240201410a180b0131080910100905200c02233246082180028d030468690a050b01324500) ∷ step lent ∷ respond (hex 12 0x810301218082028281830111) lent ∷ [];
      wanted = accepted ∷ sends 0 0x46 (hex 16 0xd00e8103012180820281028d03046869) ∷ responds Ended ∷ [];
    }

-- Case 8: page range '00 FF', unit range '11 13': '12' goes to the unit's.
unfoldable pub case8a : Case
case8a =
    record {
      calls = load (hex 58 0x0138020141080900ff0905200c0223330a180b0131080911130905200c02233246082180028d030468690a060b0132c501010a060b0133c50101) ∷ step lent ∷ respond (hex 12 0x810301218082028281830112) lent ∷ step lent ∷ [];
      wanted = accepted ∷ sends 0 0x46 (hex 16 0xd00e8103012180820281028d03046869) ∷ responds On ∷ steps Ended 1 0xC5 ∷ [];
    }

-- Case 8: and '14' to the page's.
unfoldable pub case8b : Case
case8b =
    record {
      calls = load (hex 58 0x0138020141080900ff0905200c0223330a180b0131080911130905200c02233246082180028d030468690a060b0132c501010a060b0133c50101) ∷ step lent ∷ respond (hex 12 0x810301218082028281830114) lent ∷ step lent ∷ [];
      wanted = accepted ∷ sends 0 0x46 (hex 16 0xd00e8103012180820281028d03046869) ∷ responds On ∷ steps Ended 2 0xC5 ∷ [];
    }

-- Case 9: two matching ranges in one unit: the later one.
unfoldable pub case9 : Case
case9 =
    record {
      calls = load (hex 58 0x01380201410a230b0131080900200905200c022332080910200905200c02233346082180028d030468690a060b0132c501010a060b0133c50101) ∷ step lent ∷ respond (hex 12 0x810301218082028281830112) lent ∷ step lent ∷ [];
      wanted = accepted ∷ sends 0 0x46 (hex 16 0xd00e8103012180820281028d03046869) ∷ responds On ∷ steps Ended 2 0xC5 ∷ [];
    }

-- Case 10: service B2 reads '41', set only by A1: 17; then B2 sets it to "Elm", and A1 still reads "Oak".
unfoldable pub case10 : Case
case10 =
    record {
      calls = load (hex 26 0x0118020141060241310a0f0b01314007410e04034f616bc50101) ∷ run_up_to 9 lent ∷ load (hex 23 0x0115020142060242320a0c0b01314004800d0141c50101) ∷ run_up_to 9 lent ∷ load (hex 26 0x0118020142060242320a0f0b01314007410e0403456c6dc50101) ∷ run_up_to 9 lent ∷ read_variable 0x41 (hex 2 0x4131) ∷ read_variable 0x41 (hex 2 0x4232) ∷ [];
      wanted = accepted ∷ runs Ended 2 ∷ accepted ∷ runs (Refused Variable) 1 ∷ accepted ∷ runs Ended 2 ∷ shows 0 (hex 3 0x4f616b) ∷ shows 0 (hex 3 0x456c6d) ∷ [];
    }

-- Case 11: KeepAll, OTP and a list of one: that one is kept, protected; the unlock opens it.
unfoldable pub case11 : Case
case11 =
    record {
      calls = load (hex 35 0x812101020141040270770501810a140b01314005800e0201614005810e020162c50101) ∷ run_up_to 9 lent ∷ read_variable 0x81 [] ∷ load (hex 17 0x010f02014203030070770a050b01314500) ∷ read_variable 0x81 [] ∷ read_variable 0x80 [] ∷ [];
      wanted = accepted ∷ runs Ended 3 ∷ hides ∷ accepted ∷ shows 0 (hex 1 0x62) ∷ hides ∷ [];
    }

-- Case 12: OTP only: nothing is kept.
unfoldable pub case12 : Case
case12 =
    record {
      calls = load (hex 31 0x011d020141040270770a140b01314005800e0201614005810e020162c50101) ∷ run_up_to 9 lent ∷ load (hex 17 0x010f02014203030070770a050b01314500) ∷ read_variable 0x80 [] ∷ read_variable 0x81 [] ∷ [];
      wanted = accepted ∷ runs Ended 3 ∷ accepted ∷ hides ∷ hides ∷ [];
    }

unfoldable pub table : List Case
table = case1 ∷ case2 ∷ case3 ∷ case4a ∷ case4b ∷ case4c ∷ case5a ∷ case5b ∷ case6 ∷ case7a ∷ case7b ∷ case7c ∷ case7d ∷ case7e ∷ case8a ∷ case8b ∷ case9 ∷ case10 ∷ case11 ∷ case12 ∷ []
