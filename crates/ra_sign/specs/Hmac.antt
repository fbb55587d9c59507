-- HMAC with SHA-256 (RFC 2104, section 2). A key and a text are lists of bytes.
use Rattle.std.specs.Prelude.{ℕ, ◌-◌, List, ◌++◌, length, map, replicate, bit_xor, nat_lt, if◌then◌else◌}
use Rattle.sha2.specs.Sha256.{sha256}

-- the bytes of a block of SHA-256
abbrev pub block_len : ℕ
block_len = 64

abbrev pub inner_pad : ℕ
inner_pad = 0x36

abbrev pub outer_pad : ℕ
outer_pad = 0x5c

-- zeros after the key, up to a block
abbrev pub filled : List ℕ → List ℕ
filled key = key ++ replicate (block_len - length key) 0

-- a key that is longer than a block stands for its digest
abbrev pub key_block : List ℕ → List ℕ
key_block key = if nat_lt block_len (length key) then filled (sha256 key) else filled key

-- each byte, xored with the pad
abbrev pub masked : ℕ → List ℕ → List ℕ
masked pad block = map (λ b. bit_xor b pad) block

-- H(K xor opad, H(K xor ipad, text))
unfoldable pub hmac_sha256 : List ℕ → List ℕ → List ℕ
hmac_sha256 key text =
    sha256 (masked outer_pad (key_block key) ++ sha256 (masked inner_pad (key_block key) ++ text))
