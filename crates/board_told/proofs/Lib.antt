mod Accepted
mod Alone
mod ClosedSlots
mod Listed
mod NoFloats
mod WholeTexts
