-- The starred rows of document 01's test tray: what the definitions give, and what it has to be. One statement covers them all.
use Rattle.std.specs.Prelude.{ℕ, zero, suc, ◌-◌, refl, Bool, true, false, cond, List, [], ◌∷◌, ◌++◌, replicate, set}
use Rattle.base_types.specs.declared.address.Target.{Target}
use Rattle.base_types.specs.declared.address.Target.TheVariants.{Data}
use Rattle.base_types.specs.declared.verdict.Verdict.{Verdict}
use Rattle.base_types.specs.Verdict.{final, loops, outside}
use Rattle.base_types.specs.Rows.{Row, ◌gives◌, Hold}
use Rattle.base_crc.specs.declared.crc16.SentBytes.{SentBytes}
use Rattle.base_crc.specs.Crc.{crc_bytes, crc16_of, crc16_sent}
use Rattle.chip_memory.specs.declared.layout.Field.TheVariants.{DataProtection}
use Rattle.chip_memory.specs.Layout.{first_address, blank_image, status_index, redirection_bytes, is_held}
use Rattle.chip_memory.specs.Image.{page_bit, redirection_of, data_byte, target_byte}
use Rattle.chip_memory.specs.Write.{bit_of, status_writable, is_writable, index_of, programmed}
use Rattle.chip_chain.specs.Walk.{walk_from, walk_of}

-- ---- images of a DS2505, all FFh but for what is named

-- these redirection bytes
pub redirected : List ℕ → List ℕ
redirected bytes = replicate (status_index 64 redirection_bytes) 0xFF ++ bytes

-- FFh for each page but page 1
pub on_page_one : ℕ → List ℕ
on_page_one b = set (replicate 64 0xFF) 1 b

-- k bytes that fall by one, from b on
pub falling : ℕ → ℕ → List ℕ
falling zero b = []
falling (suc k) b = b ∷ falling k (b - 1)

-- each page below 63 names the next, and page 63 has the byte b
pub chain : ℕ → List ℕ
chain b = falling 63 0xFE ++ (b ∷ [])

-- the byte old at data address 0, with page 0 protected or not
pub holding : ℕ → Bool → List ℕ
holding old protected = set (set (blank_image 64) 0 old) (status_index 64 (first_address DataProtection)) (cond protected 0xFE 0xFF)

pub first_byte : Target
first_byte = Data (record { 0 = 0 })

-- ---- the rows

pub data Answer : Type 0 where
  ends : Verdict → Answer
  holds : ℕ → Answer
  sends : SentBytes → Answer

-- how the walk from a page ends, with these redirection bytes
pub walk : List ℕ → ℕ → Answer
walk bytes p = ends (walk_of 64 (redirected bytes) p)

-- what stands where a byte was written over an old one, which is protected or not
pub write_over : ℕ → ℕ → Bool → Answer
write_over byte old protected = holds (target_byte 64 (programmed 64 (holding old protected) first_byte byte) first_byte)

-- what is sent as the CRC-16 of bytes
pub crc16 : List ℕ → Answer
crc16 bytes = sends (crc16_sent (crc16_of bytes))

pub starred_rows : List (Row Answer)
starred_rows =
    (walk (on_page_one 0xFD) 1 gives ends (final 2 1))
    ∷ (walk (on_page_one 0xFE) 1 gives ends loops)
    ∷ (walk (on_page_one 0xC0) 1 gives ends (final 63 1))
    ∷ (walk (on_page_one 0xBF) 1 gives ends (outside 64))
    ∷ (walk (on_page_one 0x00) 1 gives ends (outside 255))
    ∷ (walk (on_page_one 0x37) 1 gives ends (outside 200))
    ∷ (walk (chain 0xFF) 0 gives ends (final 63 63))
    ∷ (walk (chain 0xFE) 0 gives ends loops)
    ∷ (walk (chain 0x37) 0 gives ends (outside 200))
    ∷ (write_over 0x0F 0xF0 false gives holds 0x00)
    ∷ (write_over 0xFF 0x5A false gives holds 0x5A)
    ∷ (write_over 0x0F 0x5A true gives holds 0x5A)
    ∷ (crc16 [] gives sends (record { 0 = 0xFF; 1 = 0xFF }))
    ∷ []

pub starred_rows_hold : Hold starred_rows
unfolding starred_rows walk write_over crc16 redirected on_page_one falling chain holding first_byte walk_of walk_from redirection_of target_byte data_byte programmed
    is_writable bit_of status_writable index_of page_bit is_held first_address crc_bytes
starred_rows_hold = refl
